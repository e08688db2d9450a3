use Rattle.std.proofs.Common.{◌≡◌, ◌<◌, [], length, get_or, ◌∙◌, subst, arith}
use Rattle.std.proofs.lemmas.List.{length-map}
use Rattle.table_rows.specs.declared.view.Parameters.{Parameters}
use Rattle.table_rows.specs.Layout.{pivot_in}
use Rattle.table_rows.specs.Views.{words_of_row}
use Rattle.shared_basis.specs.Regions.{regions_seen}
use Rattle.shared_basis.proofs.ColumnLemmas.{pivot_below, pivot_is, pivot_read}
use Rattle.shared_basis.proofs.LookLemmas.{seen_count}
use Rattle.shared_basis.proofs.columns.pivot_again.Goals as goal

-- the region is one of those that were seen
within : (c : goal.After-read) → c.args.n < length (regions_seen c.args.desk.now.seat.view)
within c = let count = seen_count c.args.desk.now c.requires.desk in let below = c.requires.known in omega arith

-- what is read is the pivot that the region names
is_pivot : (c : goal.After-read) → c.read.result ≡ pivot_in (get_or (regions_seen c.args.desk.now.seat.view) c.args.n [])
is_pivot c =
    let v = c.args.desk.now.seat.view in
    let here : c.args.n < length v.sight.front.read =
    let count = length-map v.sight.front.read words_of_row in let below = within c in omega arith in
    let wide = c.requires.desk.sound.shaped.sight.wide c.args.n [] here in
    c.read.ensures.again _ (pivot_read v.sight.front c.args.n c.requires.desk.whole here (omega arith))

pub returns-clause-pivot : goal.returns-clause-pivot
returns-clause-pivot c row = is_pivot c
    ∙ pivot_is c.records.ensures.has c.args.desk.now c.requires.desk c.args.n (within c) row

pub returns-clause-below : goal.returns-clause-below
returns-clause-below c =
    let below = pivot_below c.records.ensures.has c.args.desk.now c.requires.desk c.args.n (within c) in
    let is = is_pivot c in
    subst (λ (p : Parameters). c.read.result < p.k) c.requires.seat.parameters (omega arith)
