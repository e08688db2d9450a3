use Rattle.std.proofs.Common.{◌≡◌, ℕ, List, [], ◌∷◌, map, sym, ap, ◌∙◌, subst}
use Rattle.std.specs.Prelude.{Some, bytes_eq}
use Rattle.std.proofs.lemmas.Bool.{not-false}
use Rattle.std.proofs.lemmas.Slice.Eq.{bytes_eq-Decides}
use Rattle.std.proofs.lemmas.List.Elements.{All-cons, All-nil}
use Rattle.table_rows.specs.declared.view.CallerView.{CallerView}
use Rattle.table_rows.specs.declared.view.Parameters.{Parameters}
use Rattle.table_rows.specs.Good.{IsNextRegion}
use Rattle.table_rows.specs.Steps.{after_found, draft_words}
use Rattle.table_rows.specs.Views.{IsReadWhole, IsWhole, new_caller, words_read}
use Rattle.table_rows.specs.Worked.{with_row}
use Rattle.table_rows.proofs.Filling.{whole_some, words_of_some}
use Rattle.table_rows.proofs.tests.put_in.Goals as goal

pub append-requires-clause-draft : goal.append-requires-clause-draft
append-requires-clause-draft c =
    let e = c.write_all.ensures.written in
    (c.requires.new.1 ∙ ap (λ (u : CallerView). u.draft) (sym e), subst (λ (u : CallerView). IsWhole u.written) (sym e) (whole_some c.args.mine.now))

pub append-requires-clause-good : goal.append-requires-clause-good
append-requires-clause-good c =
    let p : Parameters = c.args.table.now.parameters in
    let mine : List ℕ = c.args.mine.now in
    let e = c.write_all.ensures.written ∙ ap (λ (u : CallerView). record u { written = map Some mine }) c.requires.new.0 in
    subst (λ (u : CallerView). IsNextRegion p (words_read u.sight.front) (draft_words u)) (sym e)
    (subst (λ (l : List ℕ). IsNextRegion p [] l) (sym (words_of_some mine)) c.requires.first)

pub append-requires-2-clause-draft : goal.append-requires-2-clause-draft
append-requires-2-clause-draft c =
    let e = c.read_all.ensures.read ∙ (ap (λ (u : CallerView). with_row u 0 c.read_all.new.words) c.in-Lost.ensures.exchanged.1
    ∙ ap (λ (u : CallerView). with_row (after_found u c.in-Lost.region) 0 c.read_all.new.words) c.write_all.ensures.written) in
    (c.requires.new.1 ∙ ap (λ (u : CallerView). u.draft) (sym e), subst (λ (u : CallerView). IsWhole u.written) (sym e) (whole_some c.args.mine.now))

pub append-requires-2-clause-read : goal.append-requires-2-clause-read
append-requires-2-clause-read c =
    let mine : List ℕ = c.args.mine.now in
    let found : List ℕ = c.read_all.new.words in
    let e = c.read_all.ensures.read ∙ (ap (λ (u : CallerView). with_row u 0 found) c.in-Lost.ensures.exchanged.1
    ∙ (ap (λ (u : CallerView). with_row (after_found u c.in-Lost.region) 0 found) c.write_all.ensures.written
    ∙ ap (λ (u : CallerView). with_row (after_found (record u { written = map Some mine }) c.in-Lost.region) 0 found) c.requires.new.0)) in
    subst (λ (u : CallerView). IsReadWhole u.sight.front) (sym e) (All-cons IsWhole (map Some found) [] (whole_some found) (All-nil IsWhole))

pub append-requires-2-clause-good : goal.append-requires-2-clause-good
append-requires-2-clause-good c =
    let p : Parameters = c.args.table.now.parameters in
    let mine : List ℕ = c.args.mine.now in
    let found : List ℕ = c.read_all.new.words in
    let e = c.read_all.ensures.read ∙ (ap (λ (u : CallerView). with_row u 0 found) c.in-Lost.ensures.exchanged.1
    ∙ (ap (λ (u : CallerView). with_row (after_found u c.in-Lost.region) 0 found) c.write_all.ensures.written
    ∙ ap (λ (u : CallerView). with_row (after_found (record u { written = map Some mine }) c.in-Lost.region) 0 found) c.requires.new.0)) in
    let same : found ≡ c.args.other.now = (bytes_eq-Decides found c.args.other.now).0 (not-false (bytes_eq found c.args.other.now) (sym c.if-ne.ensures)) in
    subst (λ (u : CallerView). IsNextRegion p (words_read u.sight.front) (draft_words u)) (sym e)
    (subst (λ (l : List ℕ). IsNextRegion p (l ∷ []) (draft_words (record (new_caller p c.args.seat.view.number) { written = map Some mine }))) (sym (words_of_some found))
    (subst (λ (l : List ℕ). IsNextRegion p (found ∷ []) l) (sym (words_of_some mine)) (subst (λ (l : List ℕ). IsNextRegion p (l ∷ []) mine) (sym same) c.requires.second)))
