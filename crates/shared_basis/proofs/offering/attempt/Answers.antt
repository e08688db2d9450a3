use Rattle.std.proofs.Common.{◌≡◌, ℕ, ◌<◌, List, [], ◌∷◌, ◌++◌, length, map, sym, ap, ◌∙◌, subst, arith}
use Rattle.std.specs.Prelude.{Option, Some, vec_len}
use Rattle.linear_spec.specs.declared.packet.Packet.{Packet}
use Rattle.linear_spec.specs.Packet.{vector_of}
use Rattle.linear_spec.specs.List.{ListValue}
use Rattle.table_rows.specs.declared.view.CallerView.{CallerView}
use Rattle.table_rows.specs.declared.view.Parameters.{Parameters}
use Rattle.table_rows.specs.Layout.{row_in}
use Rattle.table_rows.specs.Seats.{SeatValue}
use Rattle.table_rows.specs.Steps.{after_found, after_reads, after_win}
use Rattle.table_rows.specs.Views.{width_of}
use Rattle.shared_basis.specs.Desks.{HasLengths}
use Rattle.shared_basis.specs.Regions.{regions_seen}
use Rattle.shared_basis.proofs.RivalLemmas.{Filling, desk_more, is_won, known_count, left_more, lost_row, settled_won}
use Rattle.shared_basis.proofs.offering.attempt.Goals as goal

-- the row that was read has the lengths of what is left, and a pivot
pub reduce_by-requires : goal.reduce_by-requires
reduce_by-requires c =
    let d = c.args.desk.now in
    let p = d.seat.view.sight.parameters in
    let e = c.learn.new.desk in
    let words = e.words.items in
    let filling : Filling = record { row = c.filling.ensures.row; whole = c.filling.ensures.whole; back = c.filling.ensures.back } in
    let written : List (Option ℕ) = map Some c.draft_record.new.desk.words.items in
    let row_kept : e.row ≡ c.draft_record.new.desk.row = c.learn.ensures.row ∙ c.publish.ensures.row in
    let known_kept : c.publish.new.desk.known ≡ d.known = c.publish.ensures.known ∙ c.draft_record.ensures.known in
    let words_kept : vec_len e.words ≡ width_of p = c.learn.ensures.words ∙ (ap vec_len c.publish.ensures.words ∙ (c.draft_record.ensures.words ∙ c.requires.desk.words)) in
    let lost = lost_row filling c.records.ensures.has d c.publish.new.desk.seat.view e.seat.view written c.in-Lost.region words
    e.row.generation (length e.row.coeffs) (length e.row.payload) c.take_row.new.out
    c.requires.desk c.learn.ensures.sound
    (sym (ap length c.as_slice-in-Lost.ensures.value) ∙ (c.as_slice-in-Lost.ensures.len ∙ words_kept))
    (c.in-Lost.ensures.view.1 ∙ ap (λ (s : SeatValue CallerView). after_found (record s.view { written = written }) c.in-Lost.region) c.draft_record.ensures.seat)
    (c.learn.ensures.view ∙ ap (λ (l : ListValue ℕ). after_reads c.publish.new.desk.seat.view (length l.items) words) known_kept)
    (c.take_row.ensures ∙ ap (row_in e.row.generation (length e.row.coeffs) (length e.row.payload)) c.as_slice-in-Lost.ensures.value)
    (ap (λ (t : Packet). length t.coeffs) row_kept ∙ c.draft_record.ensures.row.coeffs)
    (ap (λ (t : Packet). length t.payload) row_kept ∙ c.draft_record.ensures.row.payload) in
    let left_kept : e.left ≡ d.left = c.learn.ensures.left ∙ (c.publish.ensures.left ∙ c.draft_record.ensures.left) in
    record {
      coeffs = lost.1.lengths.coeffs ∙ sym (ap (λ (t : Packet). length t.coeffs) left_kept ∙ c.requires.desk.left.coeffs);
      payload = lost.1.lengths.payload ∙ sym (ap (λ (t : Packet). length t.payload) left_kept ∙ c.requires.desk.left.payload);
      pivot = lost.1.pivot_below;
    }

-- lost: the region that was found is known, and what is left is reduced by its row
pub returns-in-Lost : goal.returns-in-Lost
returns-in-Lost c =
    let d = c.args.desk.now in
    let p = d.seat.view.sight.parameters in
    let e = c.learn.new.desk in
    let words = e.words.items in
    let filling : Filling = record { row = c.filling.ensures.row; whole = c.filling.ensures.whole; back = c.filling.ensures.back } in
    let written : List (Option ℕ) = map Some c.draft_record.new.desk.words.items in
    let row_kept : e.row ≡ c.draft_record.new.desk.row = c.learn.ensures.row ∙ c.publish.ensures.row in
    let known_kept : c.publish.new.desk.known ≡ d.known = c.publish.ensures.known ∙ c.draft_record.ensures.known in
    let words_kept : vec_len e.words ≡ width_of p = c.learn.ensures.words ∙ (ap vec_len c.publish.ensures.words ∙ (c.draft_record.ensures.words ∙ c.requires.desk.words)) in
    let lost = lost_row filling c.records.ensures.has d c.publish.new.desk.seat.view e.seat.view written c.in-Lost.region words
    e.row.generation (length e.row.coeffs) (length e.row.payload) c.take_row.new.out
    c.requires.desk c.learn.ensures.sound
    (sym (ap length c.as_slice-in-Lost.ensures.value) ∙ (c.as_slice-in-Lost.ensures.len ∙ words_kept))
    (c.in-Lost.ensures.view.1 ∙ ap (λ (s : SeatValue CallerView). after_found (record s.view { written = written }) c.in-Lost.region) c.draft_record.ensures.seat)
    (c.learn.ensures.view ∙ ap (λ (l : ListValue ℕ). after_reads c.publish.new.desk.seat.view (length l.items) words) known_kept)
    (c.take_row.ensures ∙ ap (row_in e.row.generation (length e.row.coeffs) (length e.row.payload)) c.as_slice-in-Lost.ensures.value)
    (ap (λ (t : Packet). length t.coeffs) row_kept ∙ c.draft_record.ensures.row.coeffs)
    (ap (λ (t : Packet). length t.payload) row_kept ∙ c.draft_record.ensures.row.payload) in
    let left_kept : e.left ≡ d.left = c.learn.ensures.left ∙ (c.publish.ensures.left ∙ c.draft_record.ensures.left) in
    record {
      desk = desk_more d _ c.in-Lost.region c.requires.desk lost.0.found.parameters c.learn.ensures.sound lost.0.whole
          (c.learn.ensures.draft ∙ (c.publish.ensures.draft ∙ (c.draft_record.ensures.draft ∙ (c.requires.desk.draft ∙ sym lost.0.draft))))
          lost.0.known
          (c.learn.ensures.known ∙ ap (λ (l : ListValue ℕ). l.items ++ c.in-Lost.region ∷ []) known_kept)
          (c.learn.ensures.room ∙ ap (λ (l : ListValue ℕ). l.spare) known_kept)
          (words_kept ∙ sym c.requires.desk.words)
          (record {
            coeffs = c.reduce_by.ensures.coeffs ∙ (ap (λ (t : Packet). length t.coeffs) left_kept ∙ c.requires.desk.left.coeffs);
            payload = c.reduce_by.ensures.payload ∙ (ap (λ (t : Packet). length t.payload) left_kept ∙ c.requires.desk.left.payload);
          })
          lost.1.lengths;
      seat = c.learn.ensures.seat;
      lost = (
        words,
        lost.0.found,
        left_more c.reduction.ensures.last p e.seat.view.sight.parameters (regions_seen d.seat.view)
            (regions_seen e.seat.view) words (vector_of c.args.packet.now) (vector_of e.left) (vector_of c.reduce_by.new.packet)
            c.take_row.new.out lost.0.found.parameters lost.0.found.regions lost.1 (ap vector_of left_kept ∙ c.requires.left) c.reduce_by.ensures.vector,
      );
      room = subst (λ (q : Parameters). length d.known.items < q.k) c.requires.seat.parameters c.draft_record.ensures.room;
      settled = tt;
    }

-- won: the draft is the last region that is known, and the offer is settled
pub returns-in-Won : goal.returns-in-Won
returns-in-Won c =
    let d = c.args.desk.now in
    let p = d.seat.view.sight.parameters in
    let words = c.draft_record.new.desk.words.items in
    let filling : Filling = record { row = c.filling.ensures.row; whole = c.filling.ensures.whole; back = c.filling.ensures.back } in
    let view : c.publish.new.desk.seat.view ≡ after_win (record d.seat.view { written = map Some words }) = c.in-Won.ensures.view
    ∙ ap (λ (s : SeatValue CallerView). after_win (record s.view { written = map Some words })) c.draft_record.ensures.seat in
    let won = is_won filling d.seat.view c.publish.new.desk.seat.view words c.requires.desk.whole view in
    let passes : p.passes ≡ c.args.table.now.parameters.passes = ap (λ (q : Parameters). q.passes) c.requires.seat.parameters in
    let named = c.requires.parameters.1 in
    let count : length d.known.items ≡ length d.seat.view.sight.front.known = ap length c.requires.desk.known in
    let known_kept : c.publish.new.desk.known ≡ d.known = c.publish.ensures.known ∙ c.draft_record.ensures.known in
    let left_kept : c.publish.new.desk.left ≡ d.left = c.publish.ensures.left ∙ c.draft_record.ensures.left in
    let draft_kept : c.publish.new.desk.draft ≡ d.seat.view.draft =
    c.publish.ensures.draft ∙ (c.draft_record.ensures.draft ∙ c.requires.desk.draft) in
    record {
      desk = desk_more d _ d.seat.view.draft c.requires.desk won.parameters c.publish.ensures.sound won.whole
          (let draft = won.draft in omega arith)
          won.known
          (c.put.ensures.items ∙ (λ i. (known_kept i).items ++ draft_kept i ∷ []))
          (c.put.ensures.spare ∙ ap (λ (l : ListValue ℕ). l.spare) known_kept)
          (ap vec_len c.publish.ensures.words ∙ c.draft_record.ensures.words)
          (subst (HasLengths p) (sym left_kept) c.requires.desk.left)
          (subst (HasLengths p) (sym c.publish.ensures.row) c.draft_record.ensures.row);
      seat = c.publish.ensures.seat;
      lost = tt;
      room = tt;
      settled = settled_won c.args.call c.args.packet.now d.seat.view c.publish.new.desk.seat.view c.len-front.result
          (c.len-front.ensures ∙ known_count d c.requires.desk) words won
          (c.draft_record.ensures.named ∙ ap (λ (n : ℕ). record { caller = n; call = c.args.call; packet = c.args.packet.now }) c.requires.number)
          c.draft_record.ensures.fresh;
    }
