-- Two passes whose desks were brought together.
use Rattle.std.proofs.Common.{◌≡◌, ⊎_elim, ℕ, ◌+◌, ◌<◌, ◌≤◌, ◌^◌, List, [], ◌∷◌, ◌++◌, length, map, take, drop, get_or, sym, refl, ap, ◌∙◌, subst, arith}
use Rattle.std.specs.Prelude.{Option, Some, None, IsSome, vec_len}
use Rattle.std.specs.List.{All}
use Rattle.std.proofs.lemmas.List.{append-nil, drop_all, drop_at, ext_get_or, get_or-take, length-append, length-map, length-take-le, map-append, take-append-drop}
use Rattle.std.proofs.lemmas.List.Elements.{All-cons, All-nil}
use Rattle.linear_spec.specs.declared.packet.Packet.{Packet}
use Rattle.linear_spec.specs.declared.record.Record.{Record}
use Rattle.linear_spec.specs.List.{ListValue}
use Rattle.basis_core.specs.declared.trace.Call.{Call}
use Rattle.basis_core.specs.Calls.{KeptCall}
use Rattle.basis_core.specs.Legal.{HaveSeenAtMost, IsLegalHistory}
use Rattle.basis_core.specs.Merge.{CallsOf, given_by, only}
use Rattle.table_rows.specs.declared.view.CallerView.{CallerView}
use Rattle.table_rows.specs.declared.view.Front.{Front}
use Rattle.table_rows.specs.declared.view.FounderView.{FounderView}
use Rattle.table_rows.specs.declared.view.Parameters.{Parameters}
use Rattle.table_rows.specs.Good.{IsGood, offers_of}
use Rattle.table_rows.specs.Layout.{caller_in}
use Rattle.table_rows.specs.Seats.{SeatValue}
use Rattle.table_rows.specs.Steps.{IsSoundView}
use Rattle.table_rows.specs.Views.{IsPartOf, IsReadWhole, width_of, words_of_row, words_read}
use Rattle.table_rows.specs.RegionLaws.{RecordLaws}
use Rattle.shared_basis.specs.declared.desk.Desk.{Desk}
use Rattle.shared_basis.specs.Bases.{AreParameters, HasFounder, IsPass, PassValue, kept_calls}
use Rattle.shared_basis.specs.Desks.{HasLengths, IsBrought, IsDesk}
use Rattle.shared_basis.specs.Passes.{HasNotCalled, SeesOn}
use Rattle.shared_basis.specs.Regions.{record_at, records_seen, regions_seen}
use Rattle.shared_basis.proofs.GatherLemmas.{pass_of}
use Rattle.shared_basis.proofs.HistoryLemmas.{OthersLaw, all_later}
use Rattle.shared_basis.proofs.MeetLemmas.{either_most}
use Rattle.shared_basis.proofs.TogetherLemmas.{HistoryLaws, all_together, legal_over}

word_there : (o : Option ℕ) → IsSome o → (word : ℕ) × (o ≡ Some word)
word_there None some = cc
word_there (Some word) some = (word, refl)

-- a front that was read whole and is a part of another: the words of its regions are the first ones of the other
module _ (width : ℕ) (small large : Front) (part : IsPartOf small large) (whole : IsReadWhole small)
    (rows : length small.read ≡ length small.known) (rows' : length large.read ≡ length large.known)
    (wide : All (λ row. length row ≡ width) small.read) (wide' : All (λ row. length row ≡ width) large.read) where
  fewer : length small.read ≤ length large.read
  fewer = let long : length large.known ≡ length small.known + length part.prefix.0 = ap length part.prefix.1 ∙ length-append small.known part.prefix.0 in omega arith

  same_row : (n : ℕ) → n < length small.read → get_or small.read n [] ≡ get_or large.read n []
  same_row n below =
      let few : length small.read ≤ length large.read = fewer in
      let below' : n < length large.read = omega arith in
      ext_get_or None (get_or small.read n []) (get_or large.read n []) (wide n [] below ∙ sym (wide' n [] below'))
      (λ place within. let there = word_there (get_or (get_or small.read n []) place None) (whole n [] below place None within) in
      there.1 ∙ sym (part.words n place there.0 there.1))

  first_rows : small.read ≡ take (length small.read) large.read
  first_rows = ext_get_or [] small.read (take (length small.read) large.read) (sym (length-take-le (length small.read) large.read fewer))
      (λ n below. same_row n below ∙ sym (get_or-take (length small.read) large.read n [] below))

  pub words_behind : (later : List (List ℕ)) × (words_read large ≡ words_read small ++ later)
  words_behind = (
    map words_of_row (drop (length small.read) large.read),
    ap (λ (l : List (List (Option ℕ))). map words_of_row l) (sym (take-append-drop (length small.read) large.read))
        ∙ (map-append words_of_row (take (length small.read) large.read) (drop (length small.read) large.read)
        ∙ ap (λ (l : List (List (Option ℕ))). map words_of_row l ++ map words_of_row (drop (length small.read) large.read)) (sym first_rows)),
  )

-- a pass whose desk was brought together with another
module _ (laws : RecordLaws) (histories : HistoryLaws) (others_law : OthersLaw) (d other after : Desk) (brought : IsBrought d other after) (desk : IsDesk d)
    (are : AreParameters d.seat.view.sight.parameters) where
  abbrev p : Parameters
  p = d.seat.view.sight.parameters

  -- what it had seen is the first part of what it has seen
  regions_behind : (later : List (List ℕ)) × (regions_seen after.seat.view ≡ regions_seen d.seat.view ++ later)
  regions_behind = words_behind (width_of p) d.seat.view.sight.front after.seat.view.sight.front brought.part desk.whole
      desk.sound.shaped.sight.rows brought.sound.shaped.sight.rows desk.sound.shaped.sight.wide
      (subst (λ (q : Parameters). All (λ row. length row ≡ width_of q) after.seat.view.sight.front.read) brought.parameters brought.sound.shaped.sight.wide)

  -- its records, in the parameters from before
  records_are : records_seen after.seat.view ≡ map (record_at p) (regions_seen d.seat.view ++ regions_behind.0)
  records_are = (λ i. map (record_at (brought.parameters i)) (regions_behind.1 i))

  pub records_behind : (later : List Record) × (records_seen after.seat.view ≡ records_seen d.seat.view ++ later)
  records_behind = (
    map (record_at p) regions_behind.0,
    records_are ∙ map-append (record_at p) (regions_seen d.seat.view) regions_behind.0,
  )

  -- calls that were legal over what it had seen are so over what it has seen
  legal_behind : (calls : List KeptCall) → IsLegalHistory p.equations.value (only d.seat.view.number calls) (records_seen d.seat.view)
      → IsLegalHistory p.equations.value (only d.seat.view.number calls) (records_seen after.seat.view)
  legal_behind calls legal =
      let seen : List (List ℕ) = regions_seen d.seat.view in
      let later : List (List ℕ) = regions_behind.0 in
      let own : offers_of d.seat.view.number (seen ++ later) ≡ offers_of d.seat.view.number seen =
      ap (λ (l : List (List ℕ)). offers_of d.seat.view.number l) (sym regions_behind.1)
      ∙ (ap (λ (m : ℕ). offers_of m (regions_seen after.seat.view)) (sym brought.number)
      ∙ (sym (brought.sound.own brought.whole) ∙ (brought.own ∙ desk.sound.own desk.whole))) in
      let good : IsGood p (seen ++ later) = subst (λ (l : List (List ℕ)). IsGood p l) regions_behind.1
      (subst (λ (q : Parameters). IsGood q (regions_seen after.seat.view)) brought.parameters (brought.sound.good brought.whole)) in
      let below : All (λ region. caller_in region < p.passes) (seen ++ later) =
      subst (λ (l : List (List ℕ)). All (λ region. caller_in region < p.passes) l) regions_behind.1
      (subst (λ (q : Parameters). All (λ region. caller_in region < q.passes) (regions_seen after.seat.view)) brought.parameters (brought.sound.callers brought.whole)) in
      subst (λ (l : List Record). IsLegalHistory p.equations.value (only d.seat.view.number calls) l) (sym records_are)
      (legal_over laws histories p seen later d.seat.view.number calls are.k good
      (λ k e h. let one : caller_in (get_or later k e) < p.passes = all_later (λ region. caller_in region < p.passes) seen later below k e h in
      let few : p.passes ≤ 16 = are.few_passes in omega arith)
      own legal)

  seen_behind : (calls : List KeptCall) → HaveSeenAtMost (length (records_seen d.seat.view)) calls → HaveSeenAtMost (length (records_seen after.seat.view)) calls
  seen_behind calls seen = subst (λ (l : List Record). HaveSeenAtMost (length l) calls) (sym records_behind.1)
      (others_law (records_seen d.seat.view) records_behind.0 calls seen)

  module _ (known : ListValue ℕ) (known_is : known.items ≡ after.seat.view.sight.front.known)
      (room : length known.items + known.spare ≡ length d.known.items + d.known.spare) where
    abbrev now : Desk
    now = record { seat = after.seat; draft = after.draft; known = known; words = after.words; left = after.left; row = after.row }

    desk_now : IsDesk now
    desk_now = record {
      sound = brought.sound;
      whole = brought.whole;
      draft = brought.draft_kept ∙ (desk.draft ∙ sym brought.draft);
      known = known_is;
      room = (let same : after.seat.view.sight.parameters.k ≡ p.k = ap (λ (q : Parameters). q.k) brought.parameters in
          let enough : p.k ≤ length d.known.items + d.known.spare = desk.room in omega arith);
      words = ap (λ w. vec_len w) brought.words_kept ∙ (desk.words ∙ ap (λ (q : Parameters). width_of q) (sym brought.parameters));
      narrow = subst (λ (q : Parameters). width_of q < 2 ^ 32) (sym brought.parameters) desk.narrow;
      left = subst (λ (x : Packet). HasLengths after.seat.view.sight.parameters x) (sym brought.left_kept)
          (subst (λ (q : Parameters). HasLengths q d.left) (sym brought.parameters) desk.left);
      row = subst (λ (x : Packet). HasLengths after.seat.view.sight.parameters x) (sym brought.row_kept)
          (subst (λ (q : Parameters). HasLengths q d.row) (sym brought.parameters) desk.row);
    }

    pub pass_now : (founder : Option (SeatValue FounderView)) (number : ℕ) (calls : ListValue Call) (offered : List Packet) (offers_room spare : ℕ)
        → IsPass d founder number calls offered offers_room spare → IsPass now founder number calls offered offers_room spare
    pass_now founder number calls offered offers_room spare is =
        let legal : IsLegalHistory p.equations.value (only number (kept_calls calls.items offered)) (records_seen after.seat.view) =
        subst (λ (m : ℕ). IsLegalHistory p.equations.value (only m (kept_calls calls.items offered)) (records_seen after.seat.view)) (sym is.number_is)
        (legal_behind (kept_calls calls.items offered)
        (subst (λ (m : ℕ). IsLegalHistory p.equations.value (only m (kept_calls calls.items offered)) (records_seen d.seat.view)) is.number_is is.legal)) in
        record {
          parameters = subst AreParameters (sym brought.parameters) is.parameters;
          desk = desk_now;
          number_is = is.number_is ∙ sym brought.number;
          number_below = subst (λ (q : Parameters). number < q.passes) (sym brought.parameters) is.number_below;
          founder_is = subst (λ (q : Parameters). HasFounder after.seat.table q number founder) (sym brought.parameters)
              (subst (λ t. HasFounder t p number founder) (sym brought.table) is.founder_is);
          paired = is.paired;
          room = is.room;
          room_beside = is.room_beside;
          few = is.few;
          legal = subst (λ (q : Parameters). IsLegalHistory q.equations.value (only number (kept_calls calls.items offered)) (records_seen after.seat.view))
              (sym brought.parameters) legal;
          seen = seen_behind (kept_calls calls.items offered) is.seen;
        }

    pub sees_now : (number : ℕ) (calls : List Call) (offered : List Packet) (spare : ℕ)
        → SeesOn (pass_of d number calls offered spare) (pass_of now number calls offered spare)
        × HasNotCalled (pass_of d number calls offered spare) (pass_of now number calls offered spare)
    sees_now number calls offered spare = (
      record { table = brought.table; parameters = brought.parameters; number = refl; prefix = records_behind },
      record { calls = refl; spare = refl },
    )

-- the list of regions of the first pass, when it has taken over what the second one's has behind it
pub known_first : (front one other : List ℕ) (part : (later : List ℕ) × (front ≡ one ++ later)) → (length other ≤ length one → front ≡ one)
    → (length one ≤ length other → front ≡ other) → one ++ drop (length one) other ≡ front
known_first front one other part to_one to_other = ⊎_elim
    (λ le. (λ i. one ++ drop (length one) (sym (to_other le) i)) ∙ ((λ i. one ++ drop (length one) (part.1 i))
    ∙ (ap (λ (l : List ℕ). one ++ l) (drop_at one part.0 (length one) refl) ∙ sym part.1)))
    (λ le. ap (λ (l : List ℕ). one ++ l) (drop_all (length one) other le) ∙ (append-nil one ∙ sym (to_one le)))
    (either_most (length one) (length other))

-- the list of the second one, when it has taken over what the front has behind it
pub known_second : (front one all : List ℕ) (part : (later : List ℕ) × (front ≡ one ++ later)) → all ≡ front → one ++ drop (length one) all ≡ front
known_second front one all part is =
    (λ i. one ++ drop (length one) ((is ∙ part.1) i)) ∙ (ap (λ (l : List ℕ). one ++ l) (drop_at one part.0 (length one) refl) ∙ sym part.1)

-- as many records as regions are known
seen_count : (v : CallerView) → IsSoundView v → length (records_seen v) ≡ length v.sight.front.known
seen_count v is = length-map (regions_seen v) (record_at v.sight.parameters) ∙ (length-map v.sight.front.read words_of_row ∙ is.shaped.sight.rows)

-- what the longer front gives
pub longer_seen : (v w after : CallerView) → IsSoundView v → IsSoundView w → after.sight.parameters ≡ v.sight.parameters
    → (length w.sight.front.known ≤ length v.sight.front.known → after.sight.front ≡ v.sight.front)
    → length (records_seen w) ≤ length (records_seen v) → records_seen after ≡ records_seen v
longer_seen v w after is_v is_w same to le =
    let count_v : length (records_seen v) ≡ length v.sight.front.known = seen_count v is_v in
    let count_w : length (records_seen w) ≡ length w.sight.front.known = seen_count w is_w in
    let front : after.sight.front ≡ v.sight.front = to (omega arith) in
    λ i. map (record_at (same i)) (words_read (front i))

-- the calls of two passes that have seen the same
pub two_together : HistoryLaws → (p q q' : Parameters) (records records' : List Record) (a b : CallsOf) → q ≡ p → q' ≡ p → records' ≡ records
    → IsLegalHistory q.equations.value (only a.number a.calls) records → IsLegalHistory q'.equations.value (only b.number b.calls) records'
    → IsLegalHistory p.equations.value (given_by (a ∷ b ∷ [])) records
two_together histories p q q' records records' a b same same' one legal_a legal_b =
    let P : CallsOf → Type 0 = λ (x : CallsOf). IsLegalHistory p.equations.value (only x.number x.calls) records in
    all_together histories p.equations.value records (a ∷ b ∷ []) (omega arith)
    (All-cons P a (b ∷ [])
    (subst (λ (r : Parameters). IsLegalHistory r.equations.value (only a.number a.calls) records) same legal_a)
    (All-cons P b []
    (subst (λ (l : List Record). IsLegalHistory p.equations.value (only b.number b.calls) l) one
    (subst (λ (r : Parameters). IsLegalHistory r.equations.value (only b.number b.calls) records') same' legal_b))
    (All-nil P)))

-- the pass from before, by what contracts see of it
pub sees_from : (before seen after : PassValue) → before ≡ seen → SeesOn before after × HasNotCalled before after → SeesOn seen after × HasNotCalled seen after
sees_from before seen after same sees = subst (λ (q : PassValue). SeesOn q after × HasNotCalled q after) same sees
