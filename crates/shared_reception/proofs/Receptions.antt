-- What the workers of a reception may receive, and what the closed bases hold of it.
use Rattle.std.proofs.Common.{◌≡◌, ℕ, ◌+◌, ◌<◌, ◌≤◌, ◌^◌, ◌%◌, List, [], ◌∷◌, ◌++◌, length, map, get_or, suc, zero, sym, ap, ◌∙◌, subst, arith, eq-eqb, ne_eqb, inl, inr}
use Rattle.std.specs.Prelude.{Bool, Option, Some, None, cond, ◌==◌}
use Rattle.std.specs.List.{All, refill}
use Rattle.std.proofs.lemmas.List.{get_or-map}
use Rattle.std.proofs.lemmas.List.Elements.{All-cons, All-filter, All-head, All-nil, All-tail}
use Rattle.std.proofs.lemmas.Bool.{cases_lt, lt-ltb, le-ltb}
use Rattle.linear_spec.specs.declared.equations.Equations.{Equations}
use Rattle.linear_spec.specs.declared.packet.Packet.{Packet}
use Rattle.linear_spec.specs.declared.record.Record.{Record}
use Rattle.linear_spec.specs.Packet.{Fits}
use Rattle.linear_spec.specs.Passing.{IsTestable}
use Rattle.linear_spec.specs.Rows.{StandForAll}
use Rattle.linear_spec.specs.SequentialBasis.{packets_of}
use Rattle.table_rows.specs.Seats.{IsMadeWith}
use Rattle.basis_core.specs.declared.trace.CallerTrace.{CallerTrace}
use Rattle.basis_core.specs.Calls.{KeptCall, call_of}
use Rattle.basis_core.specs.Legal.{IsLegalHistory}
use Rattle.basis_core.specs.Merge.{Given, given_by, only}
use Rattle.shared_basis.specs.declared.params.Closed.{Closed}
use Rattle.shared_basis.specs.Bases.{BasisValue, PassValue}
use Rattle.shared_basis.specs.Close.{IsCloseOf}
use Rattle.shared_basis.specs.Passes.{calls_of}
use Rattle.receive_pass.specs.declared.worker.TaggedPacket.{TaggedPacket}
use Rattle.receive_pass.specs.declared.worker.Worker.{Worker}
use Rattle.receive_pass.specs.Workers.{AreBases, AreOffersOf, HasOffered, HasReceived, IsReady, IsReceivable, of_generation}
use Rattle.shared_reception.specs.Dealing.{dealt_to, given_below, inbox_of, tagged_from}
use Rattle.shared_reception.specs.Received.{IsReceivedBy}
use Rattle.shared_reception.specs.Steps.{AreDealt, AreMadeWith, AreOfGeneration, HaveAllPasses, HaveBases, IsClosedOf}
use Rattle.shared_reception.proofs.Dealt.{inbox_within}
use Rattle.shared_reception.proofs.Lists.{refilled, some_of}

-- what the laws of histories say
pub record HistoryLaws : Type 0 where
  pub together : (equations : Equations) (given : Given) (records : List Record) (number : ℕ) (calls : List KeptCall) → given number ≡ Some calls
      → ((other : ℕ) (its : List KeptCall) → given other ≡ Some its → IsLegalHistory equations (only other its) records)
      → IsLegalHistory equations given records
  pub apart : (equations : Equations) (given : Given) (records : List Record) (number : ℕ) (calls : List KeptCall) → given number ≡ Some calls
      → IsLegalHistory equations given records → IsLegalHistory equations (only number calls) records

-- no inbox has too many packets
pub few_dealt : (receivers callers : ℕ) (packets : List Packet) (workers : List Worker) → AreDealt receivers callers packets workers → length packets < 2 ^ 32
    → All (λ worker. length worker.inbox.items < 2 ^ 32) workers
few_dealt receivers callers packets workers dealt few = λ number other low.
    let there : number < callers = subst (λ (n : ℕ). number < n) dealt.count low in
    let same : length (get_or workers number other).inbox.items ≡ length (inbox_of receivers number packets) = ap length (dealt.inboxes number other there) in
    let within = inbox_within receivers number packets in
    omega arith

tagged_receivable : (equations : Equations) (bases : List BasisValue) (packets : List Packet) (tag : ℕ) → length bases ≡ equations.generations
    → All (IsTestable equations) packets → All (IsReceivable equations bases) (tagged_from packets tag)
tagged_receivable equations bases [] tag all testable = All-nil (IsReceivable equations bases)
tagged_receivable equations bases (packet ∷ packets) tag all testable =
    let first = All-head (IsTestable equations) packet packets testable in
    All-cons (IsReceivable equations bases) (record { tag = tag; packet = packet }) (tagged_from packets (tag + 1))
    (record { fits = first.fits; generation = subst (λ (n : ℕ). packet.generation < n) (sym all) first.generation_below })
    (tagged_receivable equations bases packets (tag + 1) all (All-tail (IsTestable equations) packet packets testable))

bases_are : (equations : Equations) (passes : ℕ) (bases : List BasisValue) → AreMadeWith equations passes bases → AreBases equations bases
bases_are equations passes bases made = record {
  generation = λ at other low. (made at other low).same_generation;
  equations_are = λ at other low. (made at other low).same_equations;
}

-- the workers that share the bases may receive what was dealt to them
pub all_ready : (equations : Equations) (receivers callers room : ℕ) (packets : List Packet) (bases : List BasisValue) (before after : List Worker)
    → AreDealt receivers callers packets before → All (IsTestable equations) packets → HaveBases equations room bases before after → length bases ≡ equations.generations
    → All (λ worker. length worker.inbox.items ≤ room) before → All (IsReady equations bases) after
all_ready equations receivers callers room packets bases before after dealt testable have all enough = λ number other low.
    let there : number < length before = subst (λ (n : ℕ). number < n) have.count low in
    let dealt_there : number < callers = subst (λ (n : ℕ). number < n) dealt.count there in
    let worker : Worker = get_or after number other in
    let same : worker.inbox.items ≡ (get_or before number other).inbox.items = ap (λ l. l.items) (have.inboxes number other there) in
    let inbox : worker.inbox.items ≡ inbox_of receivers number packets = same ∙ dealt.inboxes number other dealt_there in
    let passes = have.passes number other there in
    let fits = enough number other there in record {
      bases_are = bases_are equations (length before) bases have.made;
      passes_are = record {
        count = passes.count;
        each = λ at pass basis in_range. (passes.each at basis pass in_range).is_of;
        room_is = λ at pass in_range.
            let count : length worker.inbox.items ≡ length (get_or before number other).inbox.items = ap length same in
            elim bases as (λ l. at < length l → length worker.inbox.items ≤ (get_or worker.passes.items at pass).spare) [
              | [] ↦ λ none. absurd (omega arith)
              | b ∷ bs ↦ λ _. let spare = (passes.each at (some_of bases at in_range) pass in_range).spare in omega arith
            ] in_range;
      };
      inbox_is = subst (All (IsReceivable equations bases)) (sym inbox)
          (All-filter (λ tagged. tagged.tag % receivers == number) (IsReceivable equations bases) (tagged_from packets 0)
          (tagged_receivable equations bases packets 0 all testable));
    }

-- workers that have received have all passes still
pub all_left : (equations : Equations) (room : ℕ) (bases : List BasisValue) (dealt before after : List Worker) → HaveBases equations room bases dealt before
    → length after ≡ length before → ((at : ℕ) (other : Worker) → at < length before → HasReceived (get_or before at other) (get_or after at other))
    → HaveAllPasses bases after
all_left equations room bases dealt before after have same received = record {
  for_all = λ generation basis low. (have.made generation basis low).same_passes ∙ sym have.count ∙ sym same;
  counts = λ number worker low.
      let there : number < length before = subst (λ (n : ℕ). number < n) same low in
      (received number worker there).passes.count ∙ (have.passes number worker (subst (λ (n : ℕ). number < n) have.count there)).count;
  each = λ number generation worker basis pass low in_range.
      let there : number < length before = subst (λ (n : ℕ). number < n) same low in
      let new = have.passes number worker (subst (λ (n : ℕ). number < n) have.count there) in
      let was = new.each generation basis pass in_range in
      let gained = (received number worker there).passes.each generation pass (subst (λ (n : ℕ). generation < n) (sym new.count) in_range) in (
        record { table = gained.sees.table ∙ was.is_of.table; parameters = gained.sees.parameters ∙ was.is_of.parameters },
        gained.sees.number ∙ was.number_is,
      );
}

-- the calls of passes, by their place
abbrev pub kept_by : List PassValue → ℕ → List KeptCall
kept_by passes number = get_or (map (λ pass. pass.calls) passes) number []

-- passes that are numbered on from a number: each is given with its calls
given_at : (passes : List PassValue) (first number : ℕ) → ((at : ℕ) (other : PassValue) → at < length passes → (get_or passes at other).number ≡ first + at)
    → number < length passes → given_by (map calls_of passes) (first + number) ≡ Some (kept_by passes number)
given_at [] first number numbered low = absurd (omega arith)
given_at (pass ∷ passes) first zero numbered low =
    ap (λ (b : Bool). cond b (Some pass.calls) (given_by (map calls_of passes) (first + 0))) (eq-eqb pass.number (first + 0) (numbered 0 pass (omega arith)))
given_at (pass ∷ passes) first (suc number) numbered low =
    let mine : pass.number ≡ first + 0 = numbered 0 pass (omega arith) in
    let along : first + 1 + number ≡ first + suc number = omega arith in
    ap (λ (b : Bool). cond b (Some pass.calls) (given_by (map calls_of passes) (first + suc number)))
    (ne_eqb pass.number (first + suc number) (λ e. absurd (omega (arith, e))))
    ∙ ap (given_by (map calls_of passes)) (sym along)
    ∙ given_at passes (first + 1) number (λ at other in_range. numbered (suc at) other (omega arith) ∙ omega arith) (omega arith)

-- passes that are numbered by their places: each is given with its calls
pub given_in : (passes : List PassValue) (number : ℕ) → ((at : ℕ) (other : PassValue) → at < length passes → (get_or passes at other).number ≡ at)
    → number < length passes → given_by (map calls_of passes) number ≡ Some (kept_by passes number)
given_in passes number numbered low =
    let start : number ≡ 0 + number = omega arith in
    ap (given_by (map calls_of passes)) start ∙ given_at passes 0 number (λ at other in_range. numbered at other in_range ∙ omega arith) low

below_is : (count : ℕ) (kept : ℕ → List KeptCall) (number : ℕ) (calls : List KeptCall) → given_below count kept number ≡ Some calls
    → (number < count) × (calls ≡ kept number)
below_is count kept number calls found =
    elim (cases_lt number count) as (λ _. (number < count) × (calls ≡ kept number)) [
      | inl low ↦ (low, let here : Some (kept number) ≡ Some calls = sym (ap (λ (b : Bool). cond b (Some (kept number)) None) (lt-ltb number count low)) ∙ found in cc)
      | inr high ↦ let nowhere : ◌≡◌ {A = Option (List KeptCall)} None (Some calls) =
          sym (ap (λ (b : Bool). cond b (Some (kept number)) None) (le-ltb number count high)) ∙ found in absurd (cc)
    ]

-- numbered passes whose calls are legal together: so are those of the numbers below their count
legal_below : HistoryLaws → (equations : Equations) (records : List Record) (passes : List PassValue) → 1 ≤ length passes
    → ((at : ℕ) (other : PassValue) → at < length passes → (get_or passes at other).number ≡ at)
    → IsLegalHistory equations (given_by (map calls_of passes)) records
    → IsLegalHistory equations (given_below (length passes) (kept_by passes)) records
legal_below laws equations records passes some numbered legal =
    laws.together equations (given_below (length passes) (kept_by passes)) records 0 (kept_by passes 0)
    (ap (λ (b : Bool). cond b (Some (kept_by passes 0)) None) (lt-ltb 0 (length passes) (omega arith)))
    (λ other its found.
    let is = below_is (length passes) (kept_by passes) other its found in
    subst (λ (calls : List KeptCall). IsLegalHistory equations (only other calls) records) (sym is.1)
    (laws.apart equations (given_by (map calls_of passes)) records other (kept_by passes other) (given_in passes other numbered is.0) legal))

-- all calls of a pass that had made none are these offers
offered_all : (inbox : List TaggedPacket) (before after : PassValue) → HasOffered inbox before after → before.calls ≡ [] → AreOffersOf inbox after.calls
offered_all inbox before after gained none =
    subst (AreOffersOf inbox) (sym (gained.calls ∙ ap (λ (l : List KeptCall). l ++ gained.more) none)) gained.offers

-- the calls of a pass are the offers of what was dealt to its worker
pub are_offers : (equations : Equations) (receivers callers room generation : ℕ) (packets : List Packet) (bases : List BasisValue) (dealt before after : List Worker) (passes : List PassValue)
    → AreDealt receivers callers packets dealt → HaveBases equations room bases dealt before
    → ((at : ℕ) (other : Worker) → at < length before → HasReceived (get_or before at other) (get_or after at other))
    → length after ≡ length before → generation < length bases → AreOfGeneration generation after passes → (number : ℕ) → number < callers
    → AreOffersOf (dealt_to receivers number generation packets) (kept_by passes number)
are_offers equations receivers callers room generation packets bases dealt before after passes parts have received same low are number in_range =
    let dealt_there : number < length dealt = subst (λ (n : ℕ). number < n) (sym parts.count) in_range in
    let before_there : number < length before = subst (λ (n : ℕ). number < n) (sym have.count) dealt_there in
    let after_there : number < length after = subst (λ (n : ℕ). number < n) (sym same) before_there in
    let there : number < length passes = subst (λ (n : ℕ). number < n) (sym are.count) after_there in
    let worker : Worker = some_of after number after_there in
    let pass : PassValue = some_of passes number there in
    let new = have.passes number worker dealt_there in
    let was = new.each generation (some_of bases generation low) pass low in
    let gained = (received number worker before_there).passes.each generation pass (subst (λ (n : ℕ). generation < n) (sym new.count) low) in
    let inbox : (get_or before number worker).inbox.items ≡ inbox_of receivers number packets =
    ap (λ l. l.items) (have.inboxes number worker dealt_there) ∙ parts.inboxes number worker in_range in
    let calls : kept_by passes number ≡ (get_or (get_or after number worker).passes.items generation pass).calls =
    get_or-map (λ (p : PassValue). p.calls) passes number pass [] there ∙ ap (λ (p : PassValue). p.calls) (are.each number worker pass after_there) in
    subst (AreOffersOf (dealt_to receivers number generation packets)) (sym calls)
    (subst (λ (l : List TaggedPacket). AreOffersOf (of_generation generation l) (get_or (get_or after number worker).passes.items generation pass).calls) inbox
    (offered_all (of_generation generation (get_or before number worker).inbox.items) (get_or (get_or before number worker).passes.items generation pass)
    (get_or (get_or after number worker).passes.items generation pass) gained was.calls))

-- a basis that was closed with passes, whose calls are kept. callers: how many they are
pub record IsClosedBy (equations : Equations) (callers : ℕ) (passes : List PassValue) (closed : Closed) : Type 0 where
  pub fit : All (Fits equations.k equations.s) (packets_of closed.records.items)
  pub stand : StandForAll equations.k equations.s (packets_of closed.records.items) closed.rows.items
  pub count : length closed.callers.items ≡ callers
  pub numbers : (number : ℕ) (other : CallerTrace) → number < callers → (get_or closed.callers.items number other).number ≡ number
  pub calls : (number : ℕ) (other : CallerTrace) → number < callers → (get_or closed.callers.items number other).calls.items ≡ map call_of (kept_by passes number)
  pub listed : All (λ entry. entry.caller < callers) closed.records.items
  pub legal : IsLegalHistory equations (given_below callers (kept_by passes)) closed.records.items

pub closed_by : HistoryLaws → (equations : Equations) (generation count : ℕ) (basis : BasisValue) (made_for : ℕ) (passes : List PassValue) (closed : Closed)
    → 1 ≤ count → length passes ≡ count → IsMadeWith basis.parameters generation equations.k equations.s made_for equations
    → ((number : ℕ) (other : PassValue) → number < length passes → (get_or passes number other).number ≡ number)
    → IsCloseOf basis passes closed → IsClosedBy equations count passes closed
closed_by laws equations generation count basis made_for passes closed some counted made numbered closes =
    let caller : (number : ℕ) (other : CallerTrace) → number < count
    → ((get_or closed.callers.items number other).number ≡ number) × ((get_or closed.callers.items number other).calls.items ≡ map call_of (kept_by passes number)) =
    λ number other in_range.
    let there : number < length passes = subst (λ (n : ℕ). number < n) (sym counted) in_range in
    let pass : PassValue = some_of passes number there in
    let caller' = closes.callers number other pass there in (
      caller'.0 ∙ numbered number pass there,
      caller'.1 ∙ ap (map call_of) (sym (get_or-map (λ (p : PassValue). p.calls) passes number pass [] there)),
    ) in
    record {
      fit = subst (λ (n : ℕ). All (Fits n equations.s) (packets_of closed.records.items)) made.same_k
          (subst (λ (n : ℕ). All (Fits basis.parameters.k n) (packets_of closed.records.items)) made.same_s closes.fit);
      stand = subst (λ (n : ℕ). StandForAll n equations.s (packets_of closed.records.items) closed.rows.items) made.same_k
          (subst (λ (n : ℕ). StandForAll basis.parameters.k n (packets_of closed.records.items) closed.rows.items) made.same_s closes.stand);
      count = closes.count ∙ counted;
      numbers = λ number other in_range. (caller number other in_range).0;
      calls = λ number other in_range. (caller number other in_range).1;
      listed = subst (λ (n : ℕ). All (λ entry. entry.caller < n) closed.records.items) counted closes.listed;
      legal = subst (λ (n : ℕ). IsLegalHistory equations (given_below n (kept_by passes)) closed.records.items) counted
          (legal_below laws equations closed.records.items passes (omega arith) numbered
          (subst (λ (e : Equations). IsLegalHistory e (given_by (map calls_of passes)) closed.records.items) made.same_equations closes.legal));
    }

-- the closed basis of a generation holds what was received
pub is_received : HistoryLaws → (equations : Equations) (receivers room generation : ℕ) (packets : List Packet) (bases : List BasisValue) (dealt before after : List Worker) (closed : Closed)
    → 1 ≤ receivers → AreDealt receivers receivers packets dealt → HaveBases equations room bases dealt before
    → ((at : ℕ) (other : Worker) → at < length before → HasReceived (get_or before at other) (get_or after at other))
    → length after ≡ length before → generation < length bases → IsClosedOf bases after generation closed → IsReceivedBy equations receivers generation packets closed
is_received laws equations receivers room generation packets bases dealt before after closed some parts have received same low is =
    let basis : BasisValue = some_of bases generation low in
    let closes = is.closes basis in
    let made = have.made generation basis low in
    let passes = is.passes in
    let all = all_left equations room bases dealt before after have same received in
    let many : length after ≡ receivers = same ∙ have.count ∙ parts.count in
    let count : length passes ≡ receivers = is.are.count ∙ many in
    let after_there : (number : ℕ) → number < length passes → number < length after = λ number in_range. subst (λ (n : ℕ). number < n) is.are.count in_range in
    let numbered : (number : ℕ) (other : PassValue) → number < length passes → (get_or passes number other).number ≡ number =
    λ number other in_range.
    let worker : Worker = some_of after number (after_there number in_range) in
    ap (λ (p : PassValue). p.number) (is.are.each number worker other (after_there number in_range))
    ∙ (all.each number generation worker basis other (after_there number in_range) low).1 in
    let by = closed_by laws equations generation receivers (get_or bases generation basis) (length dealt) passes closed some count made numbered closes in
    record {
      fit = by.fit;
      stand = by.stand;
      count = by.count;
      numbers = by.numbers;
      kept = kept_by passes;
      calls = by.calls;
      listed = by.listed;
      offers = are_offers equations receivers receivers room generation packets bases dealt before after passes parts have received same low is.are;
      legal = by.legal;
    }

-- workers that were given bases as a slice, and written back
pub written_back : (equations : Equations) (room : ℕ) (bases : List BasisValue) (dealt lent written : List Worker) → lent ≡ dealt
    → HaveBases equations room bases lent written → HaveBases equations room bases dealt (refill (length dealt) dealt written)
written_back equations room bases dealt lent written same have =
    let mine : HaveBases equations room bases dealt written = subst (λ (l : List Worker). HaveBases equations room bases l written) same have in
    subst (HaveBases equations room bases dealt) (sym (refilled dealt written mine.count)) mine
