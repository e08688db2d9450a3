-- A pass taken apart, and the founder that takes passes in, the last one first.
use Rattle.std.proofs.Common.{◌≡◌, ◌≢◌, ℕ, ◌+◌, ◌<◌, List, [], ◌∷◌, ◌++◌, length, map, get_or, set, sym, refl, ap, ◌∙◌, subst, arith, append_assoc}
use Rattle.std.specs.Option.{option_to_list}
use Rattle.std.specs.Prelude.{Option, Some, None, IsSome}
use Rattle.std.specs.List.{All}
use Rattle.std.proofs.lemmas.List.{append-nil, length-append, length-set, length-replicate, get_or_at, get_or-set_same, get_or-set_other, reverse-append}
use Rattle.std.proofs.lemmas.List.Elements.{All-head, All-tail}
use Rattle.linear_spec.specs.declared.packet.Packet.{Packet}
use Rattle.linear_spec.specs.List.{ListValue}
use Rattle.basis_core.specs.declared.trace.Call.{Call}
use Rattle.basis_core.specs.declared.trace.CallerTrace.{CallerTrace}
use Rattle.basis_core.specs.Legal.{IsLegalHistory}
use Rattle.basis_core.specs.Merge.{only}
use Rattle.table_rows.specs.declared.view.CallerView.{CallerView}
use Rattle.table_rows.specs.declared.view.Front.{Front}
use Rattle.table_rows.specs.declared.view.FounderView.{FounderView}
use Rattle.table_rows.specs.declared.view.Parameters.{Parameters}
use Rattle.table_rows.specs.Closing.{StandsAmong}
use Rattle.table_rows.specs.Good.{offers_of}
use Rattle.table_rows.specs.Seats.{SeatValue}
use Rattle.table_rows.specs.Steps.{after_join_caller}
use Rattle.table_rows.specs.Views.{words_read}
use Rattle.shared_basis.proofs.HistoryLemmas.{all_earlier}
use Rattle.shared_basis.proofs.PassLemmas.{calls_of_kept}
use Rattle.shared_basis.specs.declared.desk.Desk.{Desk}
use Rattle.shared_basis.specs.declared.gathering.Parts.{Parts}
use Rattle.shared_basis.specs.Bases.{BasisValue, HasFounder, IsPass, PassValue, kept_calls}
use Rattle.shared_basis.specs.Close.{AreAllPasses}
use Rattle.shared_basis.specs.Gathering.{AreCallersOf, AreParts, HasGathered, HasTaken, HasTakenFrom}
use Rattle.shared_basis.specs.Passes.{IsPassOf}
use Rattle.shared_basis.specs.Regions.{record_at, records_seen, rows_seen}

-- what contracts see of a pass with these fields
abbrev pub pass_of : Desk → ℕ → List Call → List Packet → ℕ → PassValue
pass_of d number calls offered spare = record {
  table = d.seat.table;
  parameters = d.seat.view.sight.parameters;
  number = number;
  seen = records_seen d.seat.view;
  rows = rows_seen d.seat.view;
  calls = kept_calls calls offered;
  spare = spare;
  moves = d.seat.view.moves;
  reads = d.seat.view.reads;
  empty_looks = d.seat.view.empty_looks;
  last_empty = d.seat.view.last_empty;
}

-- the parts of a pass
pub parts_of : (d : Desk) (founder : Option (SeatValue FounderView)) (number : ℕ) (calls : ListValue Call) (offered : List Packet) (room spare : ℕ)
    → IsPass d founder number calls offered room spare
    → AreParts (pass_of d number calls.items offered spare) (record { seat = d.seat; founder = founder; caller = record { number = number; calls = calls } })
parts_of d founder number calls offered room spare is = record {
  table = refl;
  parameters = refl;
  number = sym is.number_is;
  sound = is.desk.sound;
  whole = is.desk.whole;
  seen = refl;
  founder_is = is.founder_is;
  caller = (refl, sym (calls_of_kept calls.items offered is.paired));
  legal = is.legal;
}

-- a pass that stands among the passes of a basis is of the basis, and its number is its place
pub at_its_place : (basis : BasisValue) (given left done : List PassValue) (pass : PassValue) → AreAllPasses basis given → given ≡ left ++ pass ∷ done
    → IsPassOf basis pass × (pass.number ≡ length left)
at_its_place basis given left done pass all split =
    let here : get_or given (length left) pass ≡ pass = ap (λ (l : List PassValue). get_or l (length left) pass) split ∙ get_or_at left pass done pass (length left) refl in
    let long : length given ≡ length left + length (pass ∷ done) = ap length split ∙ length-append left (pass ∷ done) in
    let it = all.each (length left) pass (omega arith) in
    (subst (λ (q : PassValue). IsPassOf basis q) here it.0, sym (ap (λ (q : PassValue). q.number) here) ∙ it.1)

module _ (p : Parameters) (f : FounderView) (v : CallerView) where
  abbrev after : FounderView
  after = after_join_caller f v

  -- what stands with the founder's olds after a join stood with those before it
  olds_before : (words : List ℕ) → All (StandsAmong p words) after.sight.olds → All (StandsAmong p words) f.sight.olds
  olds_before words all =
      let Q : Front → Type 0 = StandsAmong p words in
      all_earlier Q f.sight.olds v.sight.olds
      (All-tail Q v.sight.front (f.sight.olds ++ v.sight.olds) (All-tail Q f.sight.front (v.sight.front ∷ (f.sight.olds ++ v.sight.olds)) all))

  joined_front_stands : (words : List ℕ) → All (StandsAmong p words) after.sight.olds → StandsAmong p words v.sight.front
  joined_front_stands words all =
      let Q : Front → Type 0 = StandsAmong p words in
      All-head Q v.sight.front (f.sight.olds ++ v.sight.olds) (All-tail Q f.sight.front (v.sight.front ∷ (f.sight.olds ++ v.sight.olds)) all)

  -- a pass of another number that was taken in stays so
  taken_kept : (number : ℕ) (pass : PassValue) → v.number < number → HasTaken p f number pass → HasTaken p after number pass
  taken_kept number pass below taken = record {
    front = taken.front;
    stands = λ words all. taken.stands words (olds_before words all);
    whole = taken.whole;
    seen = taken.seen;
    own = (let other : number ≢ v.number = (λ e. absurd (omega arith)) in
        get_or-set_other f.joined v.number number (Some v.own) None other ∙ taken.own);
    number_is = taken.number_is;
    legal = taken.legal;
  }

  all_kept : (number : ℕ) (passes : List PassValue) → v.number < number → HasTakenFrom p f number passes → HasTakenFrom p after number passes
  all_kept number [] below taken = tt
  all_kept number (pass ∷ passes) below taken =
      (taken_kept number pass below taken.0, all_kept (number + 1) passes (omega arith) taken.1)

-- the pass that is taken in
just_taken : (p : Parameters) (f : FounderView) (number : ℕ) (pass : PassValue) (parts : Parts) → AreParts pass parts → pass.parameters ≡ p
    → pass.number ≡ number → number < length f.joined → HasTaken p (after_join_caller f parts.seat.view) number pass
just_taken p f number pass parts are same numbered below =
    let v : CallerView = parts.seat.view in
    let own_number : v.number ≡ number = are.number ∙ numbered in
    let own : v.own ≡ offers_of number (words_read v.sight.front) =
    are.sound.own are.whole ∙ ap (λ (m : ℕ). offers_of m (words_read v.sight.front)) own_number in
    record {
      front = v.sight.front;
      stands = joined_front_stands p f v;
      whole = are.whole;
      seen = are.seen ∙ ap (λ (q : Parameters). map (record_at q) (words_read v.sight.front)) (are.parameters ∙ same);
      own = ap (λ (m : ℕ). get_or (set f.joined m (Some v.own)) number None) own_number
          ∙ (get_or-set_same f.joined number (Some v.own) None below ∙ ap (λ (o : List (ℕ × ℕ)). Some o) own);
      number_is = numbered;
      legal = subst (λ (q : Parameters). IsLegalHistory q.equations.value (only number pass.calls) pass.seen) same
          (subst (λ (m : ℕ). IsLegalHistory pass.parameters.equations.value (only m pass.calls) pass.seen) numbered are.legal);
    }

-- nothing was taken in yet, and the founder's seat is with the last pass
pub none_gathered : (basis : BasisValue) (given left : List PassValue) (pass : PassValue) (parts : Parts) (founder : SeatValue FounderView)
    → AreAllPasses basis given → given ≡ left ++ pass ∷ [] → AreParts pass parts → parts.founder ≡ Some founder → HasGathered basis given founder given []
none_gathered basis given left pass parts founder all split are some =
    let at = at_its_place basis given left [] pass all split in
    let seat = subst (λ (o : Option (SeatValue FounderView)). HasFounder pass.table pass.parameters pass.number o) some are.founder_is in
    record {
      table = ap (λ (s : SeatValue FounderView). s.table) seat.1 ∙ at.0.table;
      parameters = ap (λ (s : SeatValue FounderView). s.view.sight.parameters) seat.1 ∙ at.0.parameters;
      count = ap (λ (s : SeatValue FounderView). length s.view.joined) seat.1
          ∙ (length-replicate pass.parameters.passes None ∙ ap (λ (q : Parameters). q.passes) at.0.parameters);
      done = [];
      split = sym (append-nil given);
      taken = tt;
      callers_are = tt;
    }

-- one pass more was taken in
pub one_gathered : (basis : BasisValue) (given before left : List PassValue) (pass : PassValue) (parts : Parts) (founder after : SeatValue FounderView)
    (callers : List CallerTrace) → AreAllPasses basis given → HasGathered basis given founder before callers → before ≡ left ++ pass ∷ []
    → AreParts pass parts → after.table ≡ basis.table → after.view.sight.parameters ≡ basis.parameters
    → after.view ≡ after_join_caller founder.view parts.seat.view → HasGathered basis given after left (callers ++ parts.caller ∷ [])
one_gathered basis given before left pass parts founder after callers all gathered popped are table parameters joined =
    let p : Parameters = basis.parameters in
    let split : given ≡ left ++ pass ∷ gathered.done =
    gathered.split ∙ (ap (λ (l : List PassValue). l ++ gathered.done) popped ∙ append_assoc left (pass ∷ []) gathered.done) in
    let at = at_its_place basis given left gathered.done pass all split in
    let long : length given ≡ length left + length (pass ∷ gathered.done) = ap length split ∙ length-append left (pass ∷ gathered.done) in
    let one_less : length before ≡ length left + length (pass ∷ []) = ap length popped ∙ length-append left (pass ∷ []) in
    let one_less' : length before ≡ length left + 1 = omega arith in
    let below : length left < length founder.view.joined =
    (let given_is : length given ≡ p.passes = all.count in let has : length founder.view.joined ≡ p.passes = gathered.count in omega arith) in
    let number : parts.seat.view.number ≡ length left = are.number ∙ at.1 in
    let under : parts.seat.view.number < length left + 1 = omega arith in
    record {
      table = table;
      parameters = parameters;
      count = ap (λ (f : FounderView). length f.joined) joined
          ∙ (length-set founder.view.joined parts.seat.view.number (Some parts.seat.view.own) ∙ gathered.count);
      done = pass ∷ gathered.done;
      split = split;
      taken = subst (λ (f : FounderView). HasTakenFrom p f (length left) (pass ∷ gathered.done)) (sym joined) (
        just_taken p founder.view (length left) pass parts are at.0.parameters at.1 below,
        all_kept p founder.view parts.seat.view (length left + 1) gathered.done under
            (subst (λ (n : ℕ). HasTakenFrom p founder.view n gathered.done) one_less' gathered.taken),
      );
      callers_are = subst (λ (l : List CallerTrace). AreCallersOf l (pass ∷ gathered.done)) (sym (reverse-append callers (parts.caller ∷ [])))
          (are.caller, gathered.callers_are);
    }

-- a pass that is the last of those left is of the basis
pub is_of_left : (basis : BasisValue) (given before left : List PassValue) (pass : PassValue) (founder : SeatValue FounderView) (callers : List CallerTrace)
    → AreAllPasses basis given → HasGathered basis given founder before callers → before ≡ left ++ pass ∷ [] → IsPassOf basis pass
is_of_left basis given before left pass founder callers all gathered popped =
    (at_its_place basis given left gathered.done pass all
    (gathered.split ∙ (ap (λ (l : List PassValue). l ++ gathered.done) popped ∙ append_assoc left (pass ∷ []) gathered.done))).0

some_is : {X : Type 0} (o : Option X) → o ≢ None → IsSome o
some_is None not = absurd (not refl)
some_is (Some x) not = refl

-- a list from which its last item was taken
pub popped : {X : Type 0} (before after : List X) (o : Option X) (x : X) → before ≡ after ++ option_to_list o → o ≡ Some x → before ≡ after ++ x ∷ []
popped before after o x items is = items ∙ ap (λ r. after ++ option_to_list r) is

-- the last pass has the founder's seat
pub last_has_founder : (basis : BasisValue) (given left : List PassValue) (pass : PassValue) (parts : Parts)
    → AreAllPasses basis given → given ≡ left ++ pass ∷ [] → AreParts pass parts → IsSome parts.founder
last_has_founder basis given left pass parts all split are = some_is parts.founder (λ none.
    let at = at_its_place basis given left [] pass all split in
    let less : pass.number + 1 < pass.parameters.passes =
    subst (λ (o : Option (SeatValue FounderView)). HasFounder pass.table pass.parameters pass.number o) none are.founder_is in
    let same : pass.parameters.passes ≡ basis.parameters.passes = ap (λ (q : Parameters). q.passes) at.0.parameters in
    let number : pass.number ≡ length left = at.1 in
    let count : length given ≡ basis.parameters.passes = all.count in
    let long : length given ≡ length left + length (pass ∷ []) = ap length split ∙ length-append left (pass ∷ []) in
    absurd (omega arith))
