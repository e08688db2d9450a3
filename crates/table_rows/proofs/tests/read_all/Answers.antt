use Rattle.std.proofs.Common.{◌≡◌, ℕ, ◌+◌, ◌<◌, List, [], length, get_or, sym, ap, ◌∙◌, arith}
use Rattle.std.proofs.lemmas.List.{length-set}
use Rattle.table_rows.specs.declared.view.CallerView.{CallerView}
use Rattle.table_rows.specs.Steps.{after_read}
use Rattle.table_rows.specs.Views.{width_of}
use Rattle.table_rows.proofs.Worked.{read_next}
use Rattle.table_rows.proofs.tests.read_all.Goals as goal

pub loop-place-preserved : goal.loop-place-preserved
loop-place-preserved c =
    let v : CallerView = c.args.seat.now.view in
    let ws : List ℕ = c.loop-place.words in
    let i : ℕ = c.loop-place.place in
    let x : ℕ = c.read.result in
    let rows : length v.sight.front.read ≡ length v.sight.front.known = c.is_caller.ensures.sight.rows in
    let known : c.args.n < length v.sight.front.known = c.requires.known.0 in
    let ln : c.args.n < length v.sight.front.read = omega arith in
    let wide : length (get_or v.sight.front.read c.args.n []) ≡ width_of v.sight.parameters = c.is_caller.ensures.sight.wide c.args.n [] ln in
    let six : width_of v.sight.parameters ≡ 6 = ap width_of c.requires.seat.parameters ∙ (sym c.requires.words.0 ∙ c.requires.words.1) in
    let long : length ws ≡ 6 = c.loop-place.invariant.long in
    let small : i < 6 = c.loop-place-test.true in
    let next = read_next v.sight.front.read c.args.n i x ws ln (long ∙ sym (wide ∙ six)) (omega arith) in
    let more : (v.reads + i) + 1 ≡ v.reads + (i + 1) = omega arith in record {
      seat = c.read.ensures.seat;
      long = length-set ws i x ∙ long;
      view = c.read.ensures.read ∙ (ap (λ (u : CallerView). after_read u c.args.n i x) c.loop-place.invariant.view
          ∙ (λ j. record v { sight = record v.sight { front = record v.sight.front { read = next j } }; reads = more j }));
    }
