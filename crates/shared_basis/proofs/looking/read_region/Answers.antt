use Rattle.std.proofs.Common.{◌≡◌, ℕ, ◌+◌, ◌<◌, List, [], length, map, take, get_or, set, sym, ap, ◌∙◌, subst, arith}
use Rattle.std.specs.Prelude.{Option, Some}
use Rattle.std.proofs.lemmas.List.{length-map, length-take-le, take_more_set}
use Rattle.table_rows.specs.declared.view.CallerView.{CallerView}
use Rattle.table_rows.specs.Steps.{after_read, after_reads}
use Rattle.table_rows.specs.Views.{width_of, word_read}
use Rattle.shared_basis.proofs.FillLemmas.{next_known, same_more}
use Rattle.shared_basis.proofs.looking.read_region.Goals as goal

pub loop-place-preserved : goal.loop-place-preserved
loop-place-preserved c =
    let v : CallerView = c.args.seat.now.view in
    let n : ℕ = c.args.n in
    let words : List ℕ = c.loop-place.words in
    let place : ℕ = c.loop-place.place in
    let word : ℕ = c.read.result in
    let rows : length v.sight.front.read ≡ length v.sight.front.known = c.is_caller.ensures.sight.rows in
    let known : n < length v.sight.front.known = c.requires.known.0 in
    let within : n < length v.sight.front.read = omega arith in
    let wide : length (get_or v.sight.front.read n []) ≡ width_of v.sight.parameters = c.is_caller.ensures.sight.wide n [] within in
    let width : width_of v.sight.parameters ≡ length c.args.words.now = ap width_of c.requires.seat.parameters ∙ sym c.requires.words in
    let kept : length words ≡ length c.args.words.now = c.loop-place.auto.words in
    let below : place < length words = omega arith in
    let so_far : length (take place words) ≡ place = length-take-le place words (omega arith) in
    let is : c.loop-place.seat.view ≡ after_reads v n (take place words) = c.loop-place.invariant.view in
    let step : after_read (after_reads v n (take place words)) n place word ≡ after_reads v n (take (place + 1) (set words place word)) =
    ap (λ (i : ℕ). after_read (after_reads v n (take place words)) n i word) (sym so_far)
    ∙ (c.filling.ensures.read v n (take place words) word within (omega arith)
    ∙ ap (λ (l : List ℕ). after_reads v n l) (sym (take_more_set words place word below))) in record {
      seat = c.read.ensures.seat;
      view = c.read.ensures.read ∙ (ap (λ (u : CallerView). after_read u n place word) is ∙ step);
      again = λ before e.
          let long : length (get_or v.sight.front.read n []) ≡ length (map Some before) = ap (λ (l : List (Option ℕ)). length l) e in
          let long' : length (map Some before) ≡ length before = length-map before Some in
          let there : word_read (after_reads v n (take place words)).sight.front.read n (length (take place words)) ≡ Some (get_or before (length (take place words)) 0) =
          next_known v.sight.front.read n (take place words) before within (omega arith) e in
          let there' : word_read (after_reads v n (take place words)).sight.front.read n place ≡ Some (get_or before place 0) =
          subst (λ (i : ℕ). word_read (after_reads v n (take place words)).sight.front.read n i ≡ Some (get_or before i 0)) so_far there in
          let here : word_read c.loop-place.seat.view.sight.front.read n place ≡ Some (get_or before place 0) =
          ap (λ (u : CallerView). word_read u.sight.front.read n place) is ∙ there' in
          same_more words before place word below (omega arith) (c.loop-place.invariant.again before e) (c.read.ensures.again (get_or before place 0) here);
      sound = λ _. c.read.ensures.sound;
    }
