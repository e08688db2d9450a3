-- Two callers that take in a note of each other: both then have the longer of their fronts.
use Rattle.std.proofs.Common.{◌≡◌, ◌⊎◌, ⊎_elim, ℕ, ◌≤◌, [], ◌∷◌, ◌++◌, length, sym, refl, ap, ◌∙◌, subst, arith}
use Rattle.std.specs.List.{All}
use Rattle.std.proofs.lemmas.List.Elements.{All-head, All-tail}
use Rattle.table_rows.specs.declared.view.CallerView.{CallerView}
use Rattle.table_rows.specs.declared.view.Front.{Front}
use Rattle.table_rows.specs.declared.view.Sight.{Sight}
use Rattle.table_rows.specs.RegionLaws.{MeetingLaws}
use Rattle.table_rows.specs.Seats.{SeatValue}
use Rattle.table_rows.specs.Steps.{IsSight, IsSoundView, after_join_note, after_write}
use Rattle.table_rows.specs.Views.{IsPartOf, IsReadWhole, noted}
use Rattle.shared_basis.specs.declared.desk.Desk.{Desk}
use Rattle.shared_basis.specs.Desks.{IsBrought}

-- the first caller's view and the second's, when each has taken in the other's note
pub record HaveMet (a b after_a after_b : CallerView) : Type 0 where
  pub one : after_b.sight.front ≡ after_a.sight.front
  pub whole : IsReadWhole after_a.sight.front
  pub part_a : IsPartOf a.sight.front after_a.sight.front
  pub part_b : IsPartOf b.sight.front after_a.sight.front
  pub to_a : length b.sight.front.known ≤ length a.sight.front.known → after_a.sight.front ≡ a.sight.front
  pub to_b : length a.sight.front.known ≤ length b.sight.front.known → after_a.sight.front ≡ b.sight.front

noted_sight : (s : Sight) → IsSight s → IsSight (noted s)
noted_sight s is = record { count = is.count; regions = is.regions; rows = is.rows; wide = is.wide }

pub either_most : (m n : ℕ) → (m ≤ n) ⊎ (n ≤ m)
either_most m n = grind arith

module _ (laws : MeetingLaws) (a b : CallerView) (same : b.sight.parameters ≡ a.sight.parameters) (is_a : IsSoundView a) (is_b : IsSoundView b)
    (whole_a : IsReadWhole a.sight.front) (whole_b : IsReadWhole b.sight.front) where
  abbrev second : CallerView
  second = after_join_note b (noted a.sight)

  abbrev first : CallerView
  first = after_join_note a (noted second.sight)

  pub have_met : IsSoundView (after_write first 0 0) → IsSoundView (after_write second 0 0) → HaveMet a b (after_write first 0 0) (after_write second 0 0)
  have_met sound_a sound_b =
      let P : Front → Type 0 = λ (old : Front). IsPartOf old second.sight.front in
      let olds_b : All P (b.sight.front ∷ a.sight.front ∷ (b.sight.olds ++ [])) = sound_b.olds in
      let part_b : IsPartOf b.sight.front second.sight.front = All-head P b.sight.front (a.sight.front ∷ (b.sight.olds ++ [])) olds_b in
      let part_a : IsPartOf a.sight.front second.sight.front =
      All-head P a.sight.front (b.sight.olds ++ []) (All-tail P b.sight.front (a.sight.front ∷ (b.sight.olds ++ [])) olds_b) in
      let note : IsSight (noted a.sight) = noted_sight a.sight is_a.shaped.sight in
      let is_longer_b = laws.first b.sight (noted a.sight) (sym same) is_b.shaped.sight note whole_b part_b in
      let is_longer_a = laws.second b.sight (noted a.sight) (sym same) is_b.shaped.sight note whole_a part_a in
      let whole : IsReadWhole second.sight.front = ⊎_elim
      (λ le. subst IsReadWhole (sym (is_longer_b le)) whole_b)
      (λ le. subst IsReadWhole (sym (is_longer_a le)) whole_a)
      (either_most (length a.sight.front.known) (length b.sight.front.known)) in
      let most : length a.sight.front.known ≤ length second.sight.front.known = ⊎_elim
      (λ le. let e : length second.sight.front.known ≡ length b.sight.front.known = ap (λ (f : Front). length f.known) (is_longer_b le) in omega arith)
      (λ le. let e : length second.sight.front.known ≡ length a.sight.front.known = ap (λ (f : Front). length f.known) (is_longer_a le) in omega arith)
      (either_most (length a.sight.front.known) (length b.sight.front.known)) in
      let Q : Front → Type 0 = λ (old : Front). IsPartOf old first.sight.front in
      let olds_a : All Q (a.sight.front ∷ second.sight.front ∷ (a.sight.olds ++ [])) = sound_a.olds in
      let part : IsPartOf second.sight.front first.sight.front =
      All-head Q second.sight.front (a.sight.olds ++ []) (All-tail Q a.sight.front (second.sight.front ∷ (a.sight.olds ++ [])) olds_a) in
      let one : first.sight.front ≡ second.sight.front =
      laws.second a.sight (noted second.sight) same is_a.shaped.sight (noted_sight second.sight sound_b.shaped.sight) whole part most in
      record {
        one = sym one;
        whole = subst IsReadWhole (sym one) whole;
        part_a = subst (λ (f : Front). IsPartOf a.sight.front f) (sym one) part_a;
        part_b = subst (λ (f : Front). IsPartOf b.sight.front f) (sym one) part_b;
        to_a = λ le. one ∙ is_longer_a le;
        to_b = λ le. one ∙ is_longer_b le;
      }

  -- the same of views that are what the steps one after another make them
  pub met_views : (a' b' b'' a'' after_a after_b : CallerView) (note_a note_b : Sight) → a' ≡ a → note_a ≡ noted a.sight → b' ≡ after_join_note b note_a
      → b'' ≡ b' → note_b ≡ noted b'.sight → a'' ≡ after_join_note a' note_b → after_a ≡ after_write a'' 0 0 → after_b ≡ after_write b'' 0 0
      → IsSoundView after_a → IsSoundView after_b
      → HaveMet a b after_a after_b × (after_a ≡ after_write first 0 0) × (after_b ≡ after_write second 0 0)
  met_views a' b' b'' a'' after_a after_b note_a note_b ea na eb eb' nb ea' wa wb sound_a sound_b =
      let to_second : b' ≡ second = eb ∙ ap (λ (n : Sight). after_join_note b n) na in
      let to_note : note_b ≡ noted second.sight = nb ∙ ap (λ (v : CallerView). noted v.sight) to_second in
      let to_first : a'' ≡ first = ea' ∙ (λ i. after_join_note (ea i) (to_note i)) in
      let is_a' : after_a ≡ after_write first 0 0 = wa ∙ ap (λ (v : CallerView). after_write v 0 0) to_first in
      let is_b' : after_b ≡ after_write second 0 0 = wb ∙ ap (λ (v : CallerView). after_write v 0 0) (eb' ∙ to_second) in
      let met = have_met (subst IsSoundView is_a' sound_a) (subst IsSoundView is_b' sound_b) in (
        subst (λ (v : CallerView). HaveMet a b v after_b) (sym is_a') (subst (λ (v : CallerView). HaveMet a b (after_write first 0 0) v) (sym is_b') met),
        is_a',
        is_b',
      )

-- desks that have met
module _ (a b : Desk) (seat_a seat_b : SeatValue CallerView)
    (met : HaveMet a.seat.view b.seat.view seat_a.view seat_b.view) where
  pub brought_first : (note : Sight) → seat_a.table ≡ a.seat.table → IsSoundView seat_a.view → seat_a.view ≡ after_write (after_join_note a.seat.view note) 0 0
      → IsBrought a b (record { seat = seat_a; draft = a.draft; known = a.known; words = a.words; left = a.left; row = a.row })
  brought_first note table sound is = record {
    sound = sound;
    whole = met.whole;
    parameters = ap (λ (v : CallerView). v.sight.parameters) is;
    table = table;
    number = ap (λ (v : CallerView). v.number) is;
    own = ap (λ (v : CallerView). v.own) is;
    draft = ap (λ (v : CallerView). v.draft) is;
    part = met.part_a;
    first = met.to_a;
    second = met.to_b;
    draft_kept = refl;
    known_kept = refl;
    words_kept = refl;
    left_kept = refl;
    row_kept = refl;
  }

  pub brought_second : (note : Sight) → seat_b.table ≡ b.seat.table → IsSoundView seat_b.view → seat_b.view ≡ after_write (after_join_note b.seat.view note) 0 0
      → IsBrought b a (record { seat = seat_b; draft = b.draft; known = b.known; words = b.words; left = b.left; row = b.row })
  brought_second note table sound is = record {
    sound = sound;
    whole = subst IsReadWhole (sym met.one) met.whole;
    parameters = ap (λ (v : CallerView). v.sight.parameters) is;
    table = table;
    number = ap (λ (v : CallerView). v.number) is;
    own = ap (λ (v : CallerView). v.own) is;
    draft = ap (λ (v : CallerView). v.draft) is;
    part = subst (λ (f : Front). IsPartOf b.seat.view.sight.front f) (sym met.one) met.part_b;
    first = λ le. met.one ∙ met.to_b le;
    second = λ le. met.one ∙ met.to_a le;
    draft_kept = refl;
    known_kept = refl;
    words_kept = refl;
    left_kept = refl;
    row_kept = refl;
  }
