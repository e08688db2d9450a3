use Rattle.std.proofs.Common.{◌≡◌, ℕ, List, [], ◌∷◌, replicate, sym, ap, ◌∙◌, subst}
use Rattle.table_rows.specs.declared.view.Parameters.{Parameters}
use Rattle.table_rows.specs.declared.view.View.{View}
use Rattle.table_rows.specs.declared.view.View.TheVariants.{Founder}
use Rattle.table_rows.specs.Layout.{basis_length}
use Rattle.table_rows.specs.Views.{first_founder, as_founder}
use Rattle.table_rows.specs.Rule.{TableRule}
use Rattle.table_rows.proofs.Opening.{opens}
use Rattle.table_rows.proofs.table.BasisTable.make.Goals as goal

pub of_words-requires : goal.of_words-requires
of_words-requires c =
    let p : Parameters = record { generation = c.args.generation; k = c.args.k; s = c.args.s; passes = c.args.passes; equations = c.of.result } in
    let words : c.as_slice.result.now ≡ replicate (basis_length c.args.k c.args.s c.args.passes) 0 =
    c.as_slice.ensures.value ∙ (c.in_ok-words.ensures.items_if_clones_equal (λ y h. h) ∙ ap (λ (n : ℕ). replicate n 0) c.words_of_basis-count.ensures) in
    subst (λ (ws : List ℕ). TableRule p ws (Founder (first_founder p) ∷ [])) (sym words) (opens p)

pub returns-clause-rule : goal.returns-clause-rule
returns-clause-rule c =
    let p : Parameters = record { generation = c.args.generation; k = c.args.k; s = c.args.s; passes = c.args.passes; equations = c.of.result } in
    let e = c.in_ok-table.ensures in
    let view : Founder (as_founder c.in_ok-table.seat.me.0) ≡ Founder (first_founder p) = ap (λ (v : View). Founder (as_founder v)) (ap (λ (m : View × List (ℕ × Unit {0})). m.0) e.4) in
    subst (λ (v : View). TableRule c.in_ok-table.table.shared.key (replicate (basis_length c.args.k c.args.s c.args.passes) 0) (v ∷ [])) (sym view)
    (subst (λ (q : Parameters). TableRule q (replicate (basis_length c.args.k c.args.s c.args.passes) 0) (Founder (first_founder p) ∷ [])) (sym e.5) (opens p))
