use Rattle.std.proofs.Common.{◌≡◌, reverse, ap, ◌∙◌, subst, refl}
use Rattle.table_rows.specs.RegionLaws.{RecordLaws}
use Rattle.shared_basis.specs.Bases.{AreParameters, BasisValue}
use Rattle.shared_basis.proofs.CloseLemmas.{all_joined, closed_words, closes, decoded_records, decoded_rows, laid_out_for, turned_round}
use Rattle.shared_basis.proofs.TogetherLemmas.{HistoryLaws}
use Rattle.shared_basis.proofs.closing.close_into.Goals as goal

pub close-requires-clause-joined : goal.close-requires-clause-joined
close-requires-clause-joined c = all_joined _ _ _ _ c.requires.passes c.gather-founder.ensures

pub decode_all-requires-clause-words : goal.decode_all-requires-clause-words
decode_all-requires-clause-words c =
    let closed = closed_words _ _ _ _ _ refl c.requires.room.words.0 c.close.ensures.closed in
    laid_out_for _ _ _ c.basis.invariant _ _ _ closed c.as_slice.ensures

pub returns : goal.returns
returns c =
    let parameters : c.basis.inside.table.parameters ≡ c.args.basis.parameters = ap (λ (b : BasisValue). b.parameters) c.basis.view_is in
    let closed = closed_words _ _ _ _ _ parameters c.requires.room.words.0 c.close.ensures.closed in
    let laws : RecordLaws = c.records.ensures in
    let histories : HistoryLaws = record { together = c.histories.ensures.together; other_records = c.histories.ensures.other_records } in
    let are : AreParameters c.args.basis.parameters = subst AreParameters parameters c.basis.invariant.parameters in
    closes laws histories _ _ _ _ _ _ are c.requires.passes c.gather-founder.ensures closed
    (decoded_records _ _ _ c.basis.invariant _ _ _ _ parameters c.decode_all.ensures.records c.as_slice.ensures)
    (decoded_rows _ _ _ c.basis.invariant _ _ _ _ parameters c.decode_all.ensures.rows c.as_slice.ensures)
    (turned_round c.gather-founder.new.callers.items c.reverse.new.self (c.reverse.ensures.after ∙ ap reverse c.as_mut_slice.ensures.value))
