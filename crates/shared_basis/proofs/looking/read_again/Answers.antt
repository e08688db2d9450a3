use Rattle.std.proofs.Common.{◌≡◌, ℕ, ◌<◌, List, [], length, get_or, ap, sym, ◌∙◌, arith}
use Rattle.std.specs.Prelude.{vec_len}
use Rattle.std.proofs.lemmas.List.{take_at}
use Rattle.table_rows.specs.declared.view.CallerView.{CallerView}
use Rattle.table_rows.specs.Views.{width_of}
use Rattle.shared_basis.specs.Desks.{IsDesk}
use Rattle.shared_basis.specs.declared.desk.Desk.{Desk}
use Rattle.shared_basis.proofs.LookLemmas.{Filled, same_view, same_words}
use Rattle.shared_basis.proofs.looking.read_again.Goals as goal

-- a desk that knows a region has a row for it
row_within : (d : Desk) (n : ℕ) → IsDesk d → n < length d.known.items → n < length d.seat.view.sight.front.read
row_within d n desk lt =
    let known : length d.known.items ≡ length d.seat.view.sight.front.known = ap (λ (l : List ℕ). length l) desk.known in
    let rows : length d.seat.view.sight.front.read ≡ length d.seat.view.sight.front.known = desk.sound.shaped.sight.rows in
    omega arith

pub returns-clause-view : goal.returns-clause-view
returns-clause-view c =
    let d : Desk = c.args.desk.now in
    let v : CallerView = d.seat.view in
    let words : List ℕ = c.read_region.new.words in
    let filled : Filled = record { row = c.filling.ensures.row; back = c.filling.ensures.back; whole = c.filling.ensures.whole } in
    let within : c.args.n < length v.sight.front.read = row_within d c.args.n c.requires.desk c.requires.known in
    let wide : length (get_or v.sight.front.read c.args.n []) ≡ width_of v.sight.parameters = c.requires.desk.sound.shaped.sight.wide c.args.n [] within in
    let long : length words ≡ width_of v.sight.parameters = c.read_region.auto.words ∙ (c.as_mut_slice.ensures.len ∙ c.requires.desk.words) in
    same_view filled v c.read_region.new.seat.view c.args.n words c.requires.desk.whole within c.read_region.ensures.again
    (width_of c.args.table.now.parameters) (long ∙ sym wide) (long ∙ ap width_of c.requires.seat.parameters) c.read_region.ensures.view

pub returns-clause-words : goal.returns-clause-words
returns-clause-words c =
    let d : Desk = c.args.desk.now in
    let words : List ℕ = c.read_region.new.words in
    let filled : Filled = record { row = c.filling.ensures.row; back = c.filling.ensures.back; whole = c.filling.ensures.whole } in
    let within : c.args.n < length d.seat.view.sight.front.read = row_within d c.args.n c.requires.desk c.requires.known in
    let long : length words ≡ vec_len d.words = c.read_region.auto.words ∙ c.as_mut_slice.ensures.len in
    take_at words _ d.words.len long
    ∙ same_words filled d.seat.view c.read_region.new.seat.view c.args.n words c.requires.desk.whole within c.read_region.ensures.again
