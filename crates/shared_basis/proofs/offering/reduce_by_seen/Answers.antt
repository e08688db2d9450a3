use Rattle.std.proofs.Common.{◌≡◌, ℕ, ◌+◌, ◌*◌, List, [], ◌∷◌, length, get_or, refl, sym, ap, ◌∙◌, subst, arith}
use Rattle.std.proofs.Math.Nat.{add-mul}
use Rattle.std.proofs.lemmas.List.{length-map}
use Rattle.linear_spec.specs.declared.packet.Packet.{Packet}
use Rattle.linear_spec.specs.Packet.{vector_of}
use Rattle.linear_spec.specs.Rows.{remainder_of}
use Rattle.table_rows.specs.Good.{row_at}
use Rattle.table_rows.specs.Views.{width_of}
use Rattle.shared_basis.specs.Regions.{regions_seen, rows_seen}
use Rattle.shared_basis.proofs.RivalLemmas.{known_count, left_next, reread_on}
use Rattle.shared_basis.proofs.offering.reduce_by_seen.Goals as goal

-- a row more is read
one_read : (n width : ℕ) → n * width + width ≡ (n + 1) * width
one_read n width = let more = add-mul n 1 width in omega arith

pub loop-n-init : goal.loop-n-init
loop-n-init c = record {
  desk = c.requires.desk;
  seat = c.requires.seat;
  view = record { view = refl; reads = omega arith };
  left = refl;
  known = refl;
}

pub loop-n-preserved : goal.loop-n-preserved
loop-n-preserved c =
    let d = c.args.desk.now in
    let e = c.loop-n.desk in
    let width = width_of c.args.table.now.parameters in
    let before = c.loop-n.invariant in
    let count : length (rows_seen d.seat.view) ≡ length d.known.items =
    length-map (regions_seen d.seat.view) (row_at d.seat.view.sight.parameters) ∙ sym (known_count d c.requires.desk) in
    let seen : rows_seen e.seat.view ≡ rows_seen d.seat.view = ap rows_seen before.view.view in
    record {
      desk = c.reduce_by_row.ensures.desk;
      seat = c.reduce_by_row.ensures.seat;
      view = reread_on (c.loop-n.n * width) width ((c.loop-n.n + 1) * width) d.seat.view e.seat.view c.reduce_by_row.new.desk.seat.view (one_read c.loop-n.n width)
          before.view c.reduce_by_row.ensures.view;
      left = left_next c.reduction.ensures.last (rows_seen d.seat.view) c.loop-n.n (vector_of d.left) (vector_of e.left) (vector_of c.reduce_by_row.new.desk.left)
          (omega arith) before.left
          (λ row. subst (λ (rows : List Packet). vector_of c.reduce_by_row.new.desk.left ≡ remainder_of (get_or rows c.loop-n.n row ∷ []) (vector_of e.left))
          seen (c.reduce_by_row.ensures.left row));
      known = c.reduce_by_row.ensures.known ∙ before.known;
    }
