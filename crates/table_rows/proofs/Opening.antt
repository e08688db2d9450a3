-- The table at the start: all words are 0, and there is the founder alone.
use Rattle.std.proofs.Common.{◌≡◌, ℕ, zero, suc, List, [], ◌∷◌, length, replicate, get_or, sym, refl, subst, arith}
use Rattle.std.proofs.lemmas.List.{length-replicate, get_or-replicate, get_or_past}
use mathlib.Core.Option.{some, some-injective, some-ne-none}
use mathlib.Core.Logic.{dite}
use native.Mathlib.Decide.{dec_le}
use lib.ListN.{get_elem?}
use Rattle.table_rows.specs.declared.view.Parameters.{Parameters}
use Rattle.table_rows.specs.declared.view.View.{View}
use Rattle.table_rows.specs.declared.view.View.TheVariants.{Founder}
use Rattle.table_rows.specs.Layout.{basis_length}
use Rattle.table_rows.specs.Views.{first_founder}
use Rattle.table_rows.specs.Rule.{World, Knows, TableRule}
use Rattle.table_rows.specs.Rule.Use.{nothing}
use Rattle.table_rows.proofs.Newcomers.{sees_nothing}

zero_at : (n i : ℕ) → get_or {A = ℕ} (replicate n 0) i 0 ≡ 0
zero_at n i = dite (dec_le n i)
    (λ past. let long : length {A = ℕ} (replicate n 0) ≡ n = length-replicate n 0 in get_or_past (replicate n 0) i 0 (omega arith))
    (λ not-le. get_or-replicate n i 0 0 (omega arith))

abbrev start : World
start = record { dir = []; log = []; uses = λ region. nothing; owner = λ m. 0; desk = 0; joined = [] }

alone : (p : Parameters) (words : List ℕ) (seat : ℕ) (view : View) → get_elem? (Founder (first_founder p) ∷ []) seat ≡ some view → Knows p start words seat view
alone p words zero view e = subst (λ (x : View). Knows p start words 0 x) (some-injective (Founder (first_founder p)) view e)
    (record { sight = sees_nothing p start; desk = refl; joined = refl })
alone p words (suc seat) view e = absurd (some-ne-none view (sym e))

pub opens : (p : Parameters) → TableRule p (replicate (basis_length p.k p.s p.passes) 0) (Founder (first_founder p) ∷ [])
opens p = let words : List ℕ = replicate (basis_length p.k p.s p.passes) 0 in record {
  world = start;
  laid = record {
    count = length-replicate (basis_length p.k p.s p.passes) 0;
    named = λ n lt. absurd (omega arith);
    empty = λ n past lt. zero_at (basis_length p.k p.s p.passes) n;
    regions = λ n place lt lp. absurd (omega arith);
  };
  counted = record {
    short = omega arith;
    logged = refl;
    wide = λ k d h. absurd (omega arith);
    within = λ n lt. absurd (omega arith);
    placed = λ n lt. absurd (omega arith);
    later = λ region past. refl;
    not_given = λ m past lt. refl;
    given = omega arith;
    good = λ n lt. absurd (omega arith);
    silent = λ m past. refl;
    joined_own = λ m own e. cc;
  };
  seated = record {
    founded = (first_founder p, refl);
    owned = λ m lt none. absurd (omega arith);
    each = alone p words;
  };
}
