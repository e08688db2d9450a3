-- Whoever has met all receivers has seen all records.
use Rattle.std.proofs.Common.{◌≡◌, inl, inr, ℕ, ◌<◌, suc, zero, List, [], ◌∷◌, ◌++◌, length, take, drop, get_or, sym, ap, ◌∙◌, subst, arith, append_assoc}
use Rattle.std.specs.Prelude.{Option, Some, None}
use Rattle.std.specs.List.{All}
use Rattle.std.proofs.Math.Seq.{split_at}
use Rattle.std.proofs.lemmas.List.{append-nil, get_or-map, get_or-take, length-map, length-take-le}
use Rattle.std.proofs.lemmas.List.Elements.{All-get_or, All-head, All-map, All-tail, All-take, All-weaker}
use Rattle.std.proofs.lemmas.Bool.{cases_lt}
use Rattle.linear_spec.specs.declared.equations.Equations.{Equations}
use Rattle.linear_spec.specs.declared.packet.Packet.{Packet}
use Rattle.linear_spec.specs.declared.record.Record.{Record}
use Rattle.linear_spec.specs.Cases.{IsFresh}
use Rattle.linear_spec.specs.Packet.{Fits, coefficients_of}
use Rattle.linear_spec.specs.SequentialBasis.{packets_of}
use Rattle.linear_spec.specs.Span.{InSpan}
use Rattle.linear_spec.specs.Symbols.{IsVector}
use Rattle.basis_core.specs.Calls.{KeptCall, point_of, recorded_by, count_of}
use Rattle.basis_core.specs.Legal.{HasItsRecord, HaveSeenAtMost, IsLegalHistory, IsRecordAt, IsRecordedIn}
use Rattle.basis_core.specs.Merge.{Given}
use Rattle.basis_core.specs.Run.{AreInnovative, AreInnovativeFrom}
use Rattle.shared_reception.specs.Relaying.{AreQuiet}

-- what the laws of records, of calls and of spans say
pub record RecordLaws : Type 0 where
  pub innovative : (equations : Equations) (given : Given) (records : List Record) → IsLegalHistory equations given records
      → AreInnovative equations (packets_of records)
  pub recorded : (equations : Equations) (given : Given) (records : List Record) (number : ℕ) (calls : List KeptCall)
      → IsLegalHistory equations given records → given number ≡ Some calls
      → All (λ record'. record'.caller ≡ number → IsRecordedIn calls record'.packet) records
  pub places : (equations : Equations) (given : Given) (records : List Record) (number : ℕ) (calls : List KeptCall)
      → IsLegalHistory equations given records → given number ≡ Some calls → All (HasItsRecord records number) calls
  pub member : (n : ℕ) (front back : List (List ℕ)) (vector : List ℕ) → All (IsVector n) (front ++ vector ∷ back)
      → InSpan n (front ++ vector ∷ back) vector

-- each packet is fresh at those before it
fresh_at : (equations : Equations) (front packets : List Packet) (i : ℕ) (d : Packet) → AreInnovativeFrom equations packets front → i < length packets
    → IsFresh equations.k (front ++ take i packets) (get_or packets i d)
fresh_at equations front [] i d innovative low = absurd (omega arith)
fresh_at equations front (packet ∷ packets) zero d innovative low =
    subst (λ (l : List Packet). IsFresh equations.k l packet) (sym (append-nil front)) innovative.0.1
fresh_at equations front (packet ∷ packets) (suc i) d innovative low =
    subst (λ (l : List Packet). IsFresh equations.k l (get_or packets i d)) (append_assoc front (packet ∷ []) (take i packets))
    (fresh_at equations (front ++ packet ∷ []) packets i d innovative.1 (omega arith))

-- a vector of a list lies in its span
member_at : RecordLaws → (n : ℕ) (vectors : List (List ℕ)) (j : ℕ) (d : List ℕ) → All (IsVector n) vectors → j < length vectors
    → InSpan n vectors (get_or vectors j d)
member_at laws n vectors j d are low =
    let split = split_at vectors j d low in
    subst (λ (l : List (List ℕ)). InSpan n l (get_or vectors j d)) (sym split)
    (laws.member n (take j vectors) (drop (suc j) vectors) (get_or vectors j d) (subst (All (IsVector n)) split are))

-- no packet is recorded twice
not_twice : RecordLaws → (equations : Equations) (packets : List Packet) (i j : ℕ) (d : Packet) → All (Fits equations.k equations.s) packets
    → AreInnovative equations packets → j < i → i < length packets → get_or packets j d ≡ get_or packets i d → ⊥
not_twice laws equations packets i j d fit innovative before low same =
    let front : List Packet = take i packets in
    let count : length front ≡ i = length-take-le i packets (omega arith) in
    let there : j < length front = omega arith in
    let vectors : length (coefficients_of front) ≡ length front = length-map front (λ (p : Packet). p.coeffs) in
    let are : All (IsVector equations.k) (coefficients_of front) =
    All-map (IsVector equations.k) (λ (p : Packet). p.coeffs) front
    (All-weaker (Fits equations.k equations.s) (λ (p : Packet). IsVector equations.k p.coeffs) (λ p fits. fits.coeffs) front
    (All-take (Fits equations.k equations.s) i packets fit)) in
    let is : get_or (coefficients_of front) j d.coeffs ≡ (get_or packets i d).coeffs =
    get_or-map (λ (p : Packet). p.coeffs) front j d d.coeffs there ∙ ap (λ (p : Packet). p.coeffs) (get_or-take i packets j d before ∙ same) in
    fresh_at equations [] packets i d innovative low
    (subst (InSpan equations.k (coefficients_of front)) is (member_at laws equations.k (coefficients_of front) j d.coeffs are (omega arith)))

-- the record of a packet that one of these calls recorded, of which none has seen more than so many
found_at : (records : List Record) (seen number : ℕ) (calls : List KeptCall) (packet : Packet) → IsRecordedIn calls packet
    → All (HasItsRecord records number) calls → HaveSeenAtMost seen calls → (place : ℕ) × (place < seen) × IsRecordAt records place number packet
found_at records seen number [] packet recorded places at_most = absurd recorded
found_at records seen number (call ∷ calls) packet (inl here) places at_most =
    let one : count_of (recorded_by call) ≡ 1 = ap count_of here in
    let within = at_most.0 in (point_of call, (omega arith), All-head (HasItsRecord records number) call calls places packet here)
found_at records seen number (call ∷ calls) packet (inr later) places at_most =
    found_at records seen number calls packet later (All-tail (HasItsRecord records number) call calls places) at_most.1

-- a caller of whose calls none has seen more than so many records has no record beyond
pub own_seen : RecordLaws → (equations : Equations) (given : Given) (records : List Record) (number seen i : ℕ) (calls : List KeptCall) (e : Record)
    → IsLegalHistory equations given records → given number ≡ Some calls → All (Fits equations.k equations.s) (packets_of records)
    → HaveSeenAtMost seen calls → i < length records → (get_or records i e).caller ≡ number → i < seen
own_seen laws equations given records number seen i calls e legal is fit at_most low mine =
    let packet : Packet = (get_or records i e).packet in
    let recorded : IsRecordedIn calls packet =
    All-get_or (λ record'. record'.caller ≡ number → IsRecordedIn calls record'.packet) records i e low (laws.recorded equations given records number calls legal is) mine in
    let found = found_at records seen number calls packet recorded (laws.places equations given records number calls legal is) at_most in
    elim (cases_lt i seen) as (λ _. i < seen) [
      | inl within ↦ within
      | inr beyond ↦
          let count : length (packets_of records) ≡ length records = length-map records (λ (r : Record). r.packet) in
          let there : found.0 < length records = found.2.within in
          let same : get_or (packets_of records) found.0 e.packet ≡ get_or (packets_of records) i e.packet =
          get_or-map (λ (r : Record). r.packet) records found.0 e e.packet there ∙ found.2.packet_is e
          ∙ sym (get_or-map (λ (r : Record). r.packet) records i e e.packet low) in
          absurd (not_twice laws equations (packets_of records) i found.0 e.packet fit (laws.innovative equations given records legal)
          (let earlier = found.1 in omega arith) (omega arith) same)
    ]

quiet_records_none : (calls : List KeptCall) (packet : Packet) → AreQuiet calls → IsRecordedIn calls packet → ⊥
quiet_records_none [] packet quiet recorded = recorded
quiet_records_none (call ∷ calls) packet quiet (inl here) =
    let none : recorded_by call ≡ None = All-head (λ c. recorded_by c ≡ None) call calls quiet in
    let both : ◌≡◌ {A = Option Packet} None (Some packet) = sym none ∙ here in cc
quiet_records_none (call ∷ calls) packet quiet (inr later) =
    quiet_records_none calls packet (All-tail (λ c. recorded_by c ≡ None) call calls quiet) later

-- a caller whose calls recorded nothing has no record
pub quiet_has_none : RecordLaws → (equations : Equations) (given : Given) (records : List Record) (number i : ℕ) (calls : List KeptCall) (e : Record)
    → IsLegalHistory equations given records → given number ≡ Some calls → AreQuiet calls → i < length records → (get_or records i e).caller ≡ number → ⊥
quiet_has_none laws equations given records number i calls e legal is quiet low mine =
    quiet_records_none calls (get_or records i e).packet quiet
    (All-get_or (λ record'. record'.caller ≡ number → IsRecordedIn calls record'.packet) records i e low (laws.recorded equations given records number calls legal is) mine)
