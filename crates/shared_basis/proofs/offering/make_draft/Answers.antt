use Rattle.std.proofs.Common.{rules, ◌≡◌, ℕ, List, ◌++◌, length, take, drop, sym, ap, ◌∙◌, subst, arith}
use Rattle.std.proofs.Math.Seq.{take-append_seam}
use Rattle.gf16.specs.Sums.{scaled}
use Rattle.linear_spec.specs.Rows.{first_nonzero}
use Rattle.table_rows.specs.Layout.{region_for}
use Rattle.shared_basis.proofs.DraftLemmas.{scaled_is_not_zero}
use Rattle.shared_basis.proofs.offering.make_draft.Goals as goal
use Rattle.shared_basis.proofs.offering.make_draft.Goals.{in-Some, in-None}

-- words that are written over all of a list are that list
written_over : (n : ℕ) (words before : List ℕ) → length words ≡ n → take n (words ++ drop (length words) before) ≡ words
written_over n words before long = subst (λ m. take m (words ++ drop (length words) before) ≡ words) long (take-append_seam words (drop (length words) before))

-- the pivot that was found is the row's, since a row is not 0
pub returns-clause-words : goal.returns-clause-words
returns-clause-words c =
    let coeffs : c.scale.new.self.coeffs ≡ scaled c.args.inverse.0 c.args.desk.now.left.coeffs = search rules in
    let pivot : c.match-place_of_first.pivot ≡ first_nonzero c.scale.new.self.coeffs = elim c.match-place_of_first.branch [
      | in-Some w ↦ w.pivot-is ∙ (w.in-Some.ensures.0 ∙ ap first_nonzero c.as_slice.ensures)
      | in-None w ↦ absurd (scaled_is_not_zero c.field.ensures (length c.as_slice.result.now) c.args.inverse.0 c.args.desk.now.left.coeffs
          c.is_vector.ensures.symbols (search rules) c.requires.inverse (sym coeffs ∙ (sym c.as_slice.ensures ∙ w.in-None.ensures)))
    ] in
    written_over c.args.desk.now.words.len c.lay_out.new.words c.args.desk.now.words.items (omega arith)
    ∙ (c.lay_out.ensures ∙ ap (λ (n : ℕ). region_for (record { caller = c.args.number; call = c.args.call; packet = c.args.packet.now }) n c.scale.new.self) pivot)
