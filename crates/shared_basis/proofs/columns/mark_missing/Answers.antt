use Rattle.std.proofs.Common.{◌≡◌, ℕ, ◌+◌, ◌<◌, ◌≤◌, false, List, [], ◌∷◌, ◌++◌, length, set, take, get_or, sym, ap, ◌∙◌, subst, arith}
use Rattle.std.proofs.lemmas.List.{length-map, take_all, take_more}
use Rattle.linear_spec.specs.declared.packet.Packet.{Packet}
use Rattle.linear_spec.specs.Rows.{pivot_of}
use Rattle.table_rows.specs.Good.{row_at}
use Rattle.table_rows.specs.declared.view.CallerView.{CallerView}
use Rattle.shared_basis.specs.Regions.{regions_seen, rows_seen}
use Rattle.shared_basis.proofs.ColumnLemmas.{AreMarked, marked_columns, marked_more}
use Rattle.shared_basis.proofs.LookLemmas.{seen_count}
use Rattle.shared_basis.proofs.columns.mark_missing.Goals as goal

pub loop-n-preserved : goal.loop-n-preserved
loop-n-preserved c =
    let v = c.args.desk.now.seat.view in
    let n = c.loop-n.n in
    let k = c.args.table.now.parameters.k in
    let before = c.loop-n.invariant in
    let call = c.pivot_again-pivot.ensures in
    let rows = rows_seen v in
    let row : Packet = get_or rows n c.args.desk.now.row in
    let within : n < length rows =
    let count = length-map (regions_seen v)
    (row_at v.sight.parameters) in let known = seen_count c.args.desk.now c.requires.desk in
    let below = c.loop-n-test.true in let end = c.len-n-end.ensures in omega arith in
    let pivot : c.pivot_again-pivot.result ≡ pivot_of row = call.pivot c.args.desk.now.row
    ∙ ap (λ (u : CallerView). pivot_of (get_or (rows_seen u) n c.args.desk.now.row)) before.view in
    let more : take (n + 1) rows ≡ take n rows ++ row ∷ [] = take_more rows n c.args.desk.now.row within in
    record {
      desk = call.desk;
      seat = call.seat;
      view = call.view ∙ ap (λ (u : CallerView). record u { reads = u.reads + 1 }) before.view
          ∙ (let sum : v.reads + n + 1 ≡ v.reads + (n + 1) = omega arith in ap (λ (r : ℕ). record v { reads = r }) sum);
      known = call.known ∙ before.known;
      marked = subst (λ (place : ℕ). AreMarked k (take (n + 1) rows) (set c.loop-n.out place false)) (sym pivot)
          (subst (λ (l : List Packet). AreMarked k l (set c.loop-n.out (pivot_of row) false)) (sym more)
          (marked_more k (take n rows) row c.loop-n.out before.marked));
    }

pub returns-clause-missing : goal.returns-clause-missing
returns-clause-missing c =
    let v = c.args.desk.now.seat.view in
    let k = c.args.table.now.parameters.k in
    let rows = rows_seen v in
    let past : length rows ≤ c.loop-n.n =
    let count = length-map (regions_seen v)
    (row_at v.sight.parameters) in let known = seen_count c.args.desk.now c.requires.desk in
    let end = c.loop-n-test.false in let all = c.len-n-end.ensures in omega arith in
    marked_columns k rows c.loop-n.out (subst (λ (l : List Packet). AreMarked k l c.loop-n.out)
    (take_all c.loop-n.n rows past) c.loop-n.invariant.marked)
