use Rattle.std.proofs.Common.{◌≡◌, ℕ, ◌+◌, ◌<◌, ◌≤◌, List, [], length, drop, get_or, sym, ap, ◌∙◌, arith}
use Rattle.std.specs.Prelude.{Some}
use Rattle.std.proofs.lemmas.List.{get_or-drop, length-drop, take_all}
use Rattle.table_rows.specs.declared.view.CallerView.{CallerView}
use Rattle.table_rows.specs.Steps.{after_read}
use Rattle.table_rows.specs.Views.{width_of, with_word, word_read, words_read}
use Rattle.shared_basis.proofs.FillLemmas.{region_long, same_more, word_there}
use Rattle.shared_basis.proofs.looking.read_rest.Goals as goal

pub loop-place-preserved : goal.loop-place-preserved
loop-place-preserved c =
    let v : CallerView = c.args.seat.now.view in
    let n : ℕ = c.args.n in
    let words : List ℕ = c.loop-place.words in
    let place : ℕ = c.loop-place.place in
    let at : ℕ = c.args.from + place in
    let word : ℕ = c.read.result in
    let whole : List ℕ = get_or (words_read v.sight.front) n [] in
    let rows : length v.sight.front.read ≡ length v.sight.front.known = c.is_caller.ensures.sight.rows in
    let known : n < length v.sight.front.known = c.requires.known.0 in
    let within : n < length v.sight.front.read = omega arith in
    let wide : length (get_or v.sight.front.read n []) ≡ width_of v.sight.parameters = c.is_caller.ensures.sight.wide n [] within in
    let width : width_of v.sight.parameters ≡ width_of c.args.table.now.parameters = ap width_of c.requires.seat.parameters in
    let long : c.args.from + length c.args.words.now ≡ width_of c.args.table.now.parameters = c.requires.words in
    let kept : length words ≡ length c.args.words.now = c.loop-place.auto.words in
    let below : place < length words = omega arith in
    let inside : at < length (get_or v.sight.front.read n []) = omega arith in
    let all : length whole ≡ length (get_or v.sight.front.read n []) = region_long v.sight.front n within in
    let there : word_read v.sight.front.read n at ≡ Some (get_or whole at 0) = word_there v.sight.front n at c.requires.whole within inside in
    let is = c.loop-place.invariant.view in
    let here : word_read c.loop-place.seat.view.sight.front.read n at ≡ Some (get_or whole at 0) =
    ap (λ (u : CallerView). word_read u.sight.front.read n at) is ∙ there in
    let same : word ≡ get_or whole at 0 = c.read.ensures.again (get_or whole at 0) here in
    let front : with_word v.sight.front n at word ≡ v.sight.front =
    c.reading.ensures v.sight.front n at word (there ∙ ap (λ (w : ℕ). Some w) (sym same)) in
    let one : v.reads + place + 1 ≡ v.reads + (place + 1) = omega arith in
    let rest_long = length-drop c.args.from whole in record {
      seat = c.read.ensures.seat;
      view = c.read.ensures.read ∙ (ap (λ (u : CallerView). after_read u n at word) is
          ∙ (λ i. record v { sight = record v.sight { front = front i }; reads = one i }));
      words = same_more words (drop c.args.from whole) place word below (omega arith) c.loop-place.invariant.words
          (same ∙ sym (get_or-drop c.args.from whole place 0));
      sound = c.read.ensures.sound;
    }

pub returns-clause-words : goal.returns-clause-words
returns-clause-words c =
    let v : CallerView = c.args.seat.now.view in
    let n : ℕ = c.args.n in
    let words : List ℕ = c.loop-place.words in
    let place : ℕ = c.loop-place.place in
    let rest : List ℕ = drop c.args.from (get_or (words_read v.sight.front) n []) in
    let rows : length v.sight.front.read ≡ length v.sight.front.known = c.is_caller.ensures.sight.rows in
    let known : n < length v.sight.front.known = c.requires.known.0 in
    let within : n < length v.sight.front.read = omega arith in
    let wide : length (get_or v.sight.front.read n []) ≡ width_of v.sight.parameters = c.is_caller.ensures.sight.wide n [] within in
    let width : width_of v.sight.parameters ≡ width_of c.args.table.now.parameters = ap width_of c.requires.seat.parameters in
    let long : c.args.from + length c.args.words.now ≡ width_of c.args.table.now.parameters = c.requires.words in
    let kept : length words ≡ length c.args.words.now = c.loop-place.auto.words in
    let end : length c.args.words.now ≤ place = c.loop-place-test.false in
    let all : length (get_or (words_read v.sight.front) n []) ≡ length (get_or v.sight.front.read n []) = region_long v.sight.front n within in
    let rest_long = length-drop c.args.from (get_or (words_read v.sight.front) n []) in
    sym (take_all place words (omega arith)) ∙ (c.loop-place.invariant.words ∙ take_all place rest (omega arith))
