-- The first symbol that is not 0, from what a search for it tells.
use Rattle.std.proofs.Common.{◌≡◌, ◌≢◌, ℕ, ◌<◌, List, length, get_or, replicate, eqb, not, sym, ap, ◌∙◌, arith}
use Rattle.std.proofs.lemmas.Bool.{ne_eqb}
use Rattle.std.proofs.lemmas.List.{ext_get_or, length-replicate, get_or-replicate}
use Rattle.std.proofs.lemmas.List.Sums.{position_or_len_is}
use Rattle.linear_spec.specs.Rows.{first_nonzero}

pub record IsFound (xs : List ℕ) (place : ℕ) : Type 0 where
  pub below : place < length xs
  pub some : get_or xs place 0 ≢ 0
  pub before : (k : ℕ) → k < place → get_or xs k 0 ≡ 0

pub all_zero : (xs : List ℕ) → ((k : ℕ) → k < length xs → get_or xs k 0 ≡ 0) → xs ≡ replicate (length xs) 0
all_zero xs zeros = ext_get_or 0 xs (replicate (length xs) 0) (sym (length-replicate (length xs) 0))
    (λ i below. zeros i below ∙ sym (get_or-replicate (length xs) i 0 0 below))

pub is_first : (xs : List ℕ) (place : ℕ) → place < length xs → get_or xs place 0 ≢ 0 → ((k : ℕ) → k < place → get_or xs k 0 ≡ 0) → place ≡ first_nonzero xs
is_first xs place below some before =
    sym (position_or_len_is (λ symbol. not (eqb symbol 0)) xs place 0 (omega arith)
    (λ k h. ap (λ x. not (eqb x 0)) (before k h))
    (λ h. ap not (ne_eqb (get_or xs place 0) 0 some)))
