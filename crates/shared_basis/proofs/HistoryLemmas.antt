-- What finding records of other callers, and making a call, does to the history of one caller over the records that it has seen.
use Rattle.std.proofs.Common.{◌≡◌, ◌≢◌, ⊎_elim, ℕ, ◌+◌, ◌<◌, ◌≤◌, ◌^◌, cond, true, false, eqb, List, [], ◌∷◌, ◌++◌, length, map, take, get_or, Some, None, refl, sym, ap, ◌∙◌, subst, arith}
use Rattle.std.specs.List.{All}
use Rattle.std.proofs.lemmas.Bool.{eq-eqb, ne_eqb, cases_eq}
use Rattle.std.proofs.lemmas.List.{append-nil, append_cancel_left, get_or-append-add, get_or_append_left, length-append, length-map, map-append}
use Rattle.std.proofs.Math.Seq.{take-append_seam}
use Rattle.std.proofs.lemmas.List.Elements.{All-cons, All-map, All-nil}
use Rattle.linear_spec.specs.declared.equations.Equations.{Equations}
use Rattle.linear_spec.specs.declared.packet.Packet.{Packet}
use Rattle.linear_spec.specs.declared.record.Record.{Record}
use Rattle.linear_spec.specs.declared.reply.Reply.{Reply}
use Rattle.linear_spec.specs.declared.reply.Reply.TheVariants.{FailedCheck, Innovative, NotInnovative, Conflicting}
use Rattle.linear_spec.specs.Passing.{Passes}
use Rattle.linear_spec.specs.SequentialBasis.{IsCaseReply, IsReply, packets_of, recorded}
use Rattle.basis_core.specs.Calls.{KeptCall, KeptOffer, IsAnsweredAt, point_of, point_of_reply}
use Rattle.basis_core.specs.Legal.{Gains, HaveSeenAtMost, IsAnsweredOver, IsLegalHistory, record_by}
use Rattle.basis_core.specs.Merge.{Given, only}
use Rattle.basis_core.specs.Run.{AreInnovative, AreInnovativeFrom}
use Rattle.table_rows.specs.declared.view.CallerView.{CallerView}
use Rattle.table_rows.specs.declared.view.Parameters.{Parameters}
use Rattle.table_rows.specs.Good.{offers_from, offers_of}
use Rattle.table_rows.specs.Layout.{call_in, caller_in}
use Rattle.table_rows.specs.Steps.{IsSoundView}
use Rattle.table_rows.specs.Views.{IsReadWhole}
use Rattle.shared_basis.specs.Regions.{record_at, records_seen, regions_seen}

abbrev pub OtherRecordsLaw : Type 0
OtherRecordsLaw = (equations : Equations) (given : Given) (records more : List Record)
    → IsLegalHistory equations given records → AreInnovative equations (packets_of (records ++ more))
    → All (λ record'. (given record'.caller ≡ None) × (record'.caller < 2 ^ 32)) more
    → IsLegalHistory equations given (records ++ more)

abbrev pub StepLaw : Type 0
StepLaw = (equations : Equations) (before after : Given) (records : List Record) (number : ℕ) (calls : List KeptCall)
    (call : KeptCall)
    → IsLegalHistory equations before records → Gains before after number calls call → HaveSeenAtMost (length records) calls
    → IsAnsweredAt equations (packets_of records) call
    → IsLegalHistory equations after (records ++ record_by number (length calls) call)

abbrev pub SeenLaw : Type 0
SeenLaw = (equations : Equations) (records : List Record) (number count : ℕ) (calls : List KeptCall) (call : KeptCall)
    → HaveSeenAtMost (length records) calls → IsAnsweredAt equations (packets_of records) call
    → HaveSeenAtMost (length (records ++ record_by number count call)) (calls ++ call ∷ [])

abbrev pub OthersLaw : Type 0
OthersLaw = (records more : List Record) (calls : List KeptCall) → HaveSeenAtMost (length records) calls
    → HaveSeenAtMost (length (records ++ more)) calls

-- a caller's calls are by themselves a legal history over the records that it has seen, and none has seen more
pub record IsHistory (equations : Equations) (number : ℕ) (calls : List KeptCall) (records : List Record) : Type 0 where
  pub legal : IsLegalHistory equations (only number calls) records
  pub seen : HaveSeenAtMost (length records) calls

-- where one caller alone is given, no other is
only_other : (number other : ℕ) (calls : List KeptCall) → other ≢ number → only number calls other ≡ None
only_other number other calls ne = let e = ne_eqb number other (λ s. ne (sym s)) in rw e refl

only_own : (number : ℕ) (calls : List KeptCall) → only number calls number ≡ Some calls
only_own number calls = let e = eq-eqb number number refl in rw e refl

-- the only caller that is given gains a call
pub only_gains : (number : ℕ) (calls : List KeptCall) (call : KeptCall)
    → Gains (only number calls) (only number (calls ++ call ∷ [])) number calls call
only_gains number calls call = record {
  had = only_own number calls;
  now = only_own number (calls ++ call ∷ []);
  others = λ other ne. only_other number other (calls ++ call ∷ []) ne ∙ sym (only_other number other calls ne);
}

-- records of other callers that the basis can have recorded
abbrev pub AreOthers : ℕ → List Record → Type 0
AreOthers number records = All (λ record'. (record'.caller ≢ number) × (record'.caller < 2 ^ 32)) records

-- a caller that found records of others
pub history_found : OtherRecordsLaw → OthersLaw
    → (equations : Equations) (number : ℕ) (calls : List KeptCall) (records more : List Record)
    → IsHistory equations number calls records → AreInnovative equations (packets_of (records ++ more))
    → AreOthers number more
    → IsHistory equations number calls (records ++ more)
history_found other_records others equations number calls records more history fresh are = record {
  legal = other_records equations (only number calls) records more history.legal fresh
      (λ k d below. let one = are k d below in (only_other number (get_or more k d).caller calls one.0, one.1));
  seen = others records more calls history.seen;
}

-- a caller that made a call
pub history_called : StepLaw → SeenLaw
    → (equations : Equations) (number : ℕ) (calls : List KeptCall) (records : List Record) (call : KeptCall)
    → IsHistory equations number calls records → IsAnsweredAt equations (packets_of records) call
    → IsHistory equations number (calls ++ call ∷ []) (records ++ record_by number (length calls) call)
history_called step seen equations number calls records call history is = record {
  legal = step equations (only number calls) (only number (calls ++ call ∷ [])) records number calls call history.legal
      (only_gains number calls call) history.seen is;
  seen = seen equations records number (length calls) calls call history.seen is;
}

-- the record that an offer adds, in two spellings
pub recorded_is : (number count tag : ℕ) (packet : Packet) (reply : Reply)
    → record_by number count (KeptOffer tag packet reply)
    ≡ recorded (record { caller = number; call = count; packet = packet }) reply
recorded_is number count tag packet (FailedCheck check at) = refl
recorded_is number count tag packet (Innovative at) = refl
recorded_is number count tag packet (NotInnovative at) = refl
recorded_is number count tag packet (Conflicting at) = refl

-- the first of packets that are innovative one after another
innovative_first : (equations : Equations) (front packets more : List Packet)
    → AreInnovativeFrom equations (packets ++ more) front → AreInnovativeFrom equations packets front
innovative_first equations front [] more are = tt
innovative_first equations front (packet ∷ packets) more are = (
  are.0,
  innovative_first equations
      (front ++ packet ∷ []) packets more are.1,
)

pub innovative_prefix : (equations : Equations) (records more : List Record)
    → AreInnovative equations (packets_of (records ++ more)) → AreInnovative equations (packets_of records)
innovative_prefix equations records more are = innovative_first equations [] (packets_of records) (packets_of more)
    (subst (λ (l : List Packet). AreInnovative equations l) (map-append (λ (r : Record). r.packet) records more) are)

-- the later ones of which something holds, that holds of all
pub all_later : {X : Type 0} (P : X → Type 0) (xs ys : List X) → All P (xs ++ ys) → All P ys
all_later P xs ys all k d below =
    subst P (get_or-append-add xs ys k d) (all (length xs + k) d (let long = length-append xs ys in omega arith))

-- the earlier ones
pub all_earlier : {X : Type 0} (P : X → Type 0) (xs ys : List X) → All P (xs ++ ys) → All P xs
all_earlier P xs ys all k d below =
    subst P (get_or_append_left xs ys d k below) (all k d (let long = length-append xs ys in omega arith))

-- offers of regions, and of more behind them
pub offers_append : (number n : ℕ) (regions more : List (List ℕ))
    → offers_from number n (regions ++ more) ≡ offers_from number n regions ++ offers_from number (n + length regions) more
offers_append number n [] more = ap (λ (m : ℕ). offers_from number m more) (omega arith)
offers_append number n (region ∷ regions) more =
    let rest = offers_append number (n + 1) regions more in
    let same : offers_from number (n + 1 + length regions) more
    ≡ offers_from number (n + length (region ∷ regions)) more = ap (λ (m : ℕ). offers_from number m more)
    (omega arith) in
    let step : offers_from number (n + 1) (regions ++ more)
    ≡ offers_from number (n + 1) regions ++ offers_from number (n + length (region ∷ regions)) more =
    rest ∙ ap (λ (l : List (ℕ × ℕ)). offers_from number (n + 1) regions ++ l) same in
    elim (eqb (caller_in region) number) as
    (λ b. cond b ((n, call_in region) ∷ offers_from number (n + 1) (regions ++ more)) (offers_from number (n + 1)
    (regions ++ more))
    ≡ cond b ((n, call_in region) ∷ offers_from number (n + 1) regions) (offers_from number
    (n + 1) regions) ++ offers_from number (n + length (region ∷ regions)) more) [
      | true ↦ ap (λ (l : List (ℕ × ℕ)). (n, call_in region) ∷ l) step
      | false ↦ step
    ]

-- regions of which a caller offered none are others'
none_offered : (number n : ℕ) (regions : List (List ℕ)) → offers_from number n regions ≡ []
    → All (λ region. caller_in region ≢ number) regions
none_offered number n [] none = All-nil _
none_offered number n (region ∷ regions) none =
    ⊎_elim (λ own. let e : offers_from number n (region ∷ regions)
    ≡ (n, call_in region) ∷ offers_from number (n + 1) regions = let t = eq-eqb
    (caller_in region) number own in rw t refl in
    let long = ap length (sym e ∙ none) in absurd (omega arith))
    (λ other. All-cons (λ region. caller_in region ≢ number) region regions other
    (none_offered number (n + 1) regions (let t = ne_eqb (caller_in region) number other in sym (rw t refl) ∙ none)))
    (cases_eq (caller_in region) number)

-- regions behind those that a caller knew, which left its own list as it was, are others'
pub others_found : (number : ℕ) (regions more : List (List ℕ))
    → offers_of number (regions ++ more) ≡ offers_of number regions
    → All (λ region. caller_in region ≢ number) more
others_found number regions more same = none_offered number (0 + length regions) more
    (append_cancel_left (offers_of number regions) (offers_from number (0 + length regions) more) []
    (sym (offers_append number 0 regions more) ∙ same ∙ sym (append-nil (offers_of number regions))))

-- records of others, which have numbers
others_are : (passes number : ℕ) (records : List Record) → passes ≤ 16 → All (λ record'. record'.caller < passes) records
    → All (λ record'. record'.caller ≢ number) records → AreOthers number records
others_are passes number records few callers others k d below =
    (others k d below, let one = callers k d below in omega arith)

-- the records that a sound view has seen are those of callers that have numbers
callers_seen : (w : CallerView) → IsSoundView w → IsReadWhole w.sight.front
    → All (λ record'. record'.caller < w.sight.parameters.passes) (records_seen w)
callers_seen w sound whole = All-map (λ (record' : Record). record'.caller < w.sight.parameters.passes)
    (record_at w.sight.parameters) (regions_seen w) (sound.callers whole)

-- records of regions, of which the last are others', that are the first of what a sound view has seen
pub history_on : OtherRecordsLaw → OthersLaw
    → (v w : CallerView) (number : ℕ) (calls : List KeptCall) (more : List (List ℕ)) (rest : List Record)
    → IsHistory v.sight.parameters.equations.value number calls (records_seen v)
    → w.sight.parameters ≡ v.sight.parameters → v.sight.parameters.passes ≤ 16 → IsSoundView w → IsReadWhole w.sight.front
    → All (λ region. caller_in region ≢ number) more
    → records_seen w ≡ map (record_at v.sight.parameters) (regions_seen v ++ more) ++ rest
    → AreInnovative w.sight.parameters.equations.value (packets_of (records_seen w))
    → IsHistory v.sight.parameters.equations.value number calls (map (record_at v.sight.parameters) (regions_seen v ++ more))
history_on other_records others_law v w number calls more rest history parameters few sound whole others seen fresh =
    let p : Parameters = v.sight.parameters in
    let cut : map (record_at p) (regions_seen v ++ more)
    ≡ records_seen v ++ map (record_at p) more = map-append (record_at p) (regions_seen v) more in
    let first : AreInnovative p.equations.value (packets_of (records_seen v ++ map (record_at p) more)) =
    subst (λ (l : List Record). AreInnovative p.equations.value (packets_of l)) cut
    (innovative_prefix p.equations.value (map (record_at p) (regions_seen v ++ more)) rest
    (subst (λ (l : List Record). AreInnovative p.equations.value (packets_of l)) seen
    (subst (λ (q : Parameters). AreInnovative q.equations.value (packets_of (records_seen w))) parameters fresh))) in
    let numbered : All (λ record'. record'.caller < p.passes) (map (record_at p) more) =
    all_later (λ (record' : Record). record'.caller < p.passes) (records_seen v) (map (record_at p) more)
    (subst (All (λ (record' : Record). record'.caller < p.passes)) cut
    (all_earlier (λ (record' : Record). record'.caller < p.passes) (map (record_at p) (regions_seen v ++ more)) rest
    (subst (All (λ (record' : Record). record'.caller < p.passes)) seen
    (subst (λ (q : Parameters). All (λ (record' : Record). record'.caller < q.passes) (records_seen w)) parameters
    (callers_seen w sound whole))))) in
    subst (IsHistory p.equations.value number calls) (sym cut)
    (history_found other_records others_law p.equations.value number calls (records_seen v) (map
    (record_at p) more) history first
    (others_are p.passes number (map (record_at p) more) few numbered
    (All-map (λ (record' : Record). record'.caller ≢ number) (record_at p) more others)))

-- an answer at the first of the records, all of which its point names
pub answered_over : (equations : Equations) (front rest : List Record) (call : KeptCall)
    → IsAnsweredAt equations (packets_of front) call → point_of call ≡ length front
    → IsAnsweredOver equations (front ++ rest) call
answered_over equations front rest call is point =
    let long = length-append front rest in
    let count = length-map front (λ (r : Record). r.packet) in
    let first : take (point_of call) (packets_of (front ++ rest)) ≡ packets_of front =
    ap (λ (n : ℕ). take n (packets_of (front ++ rest))) (point ∙ sym count)
    ∙ ap (take (length (packets_of front))) (map-append (λ (r : Record). r.packet) front rest)
    ∙ take-append_seam (packets_of front) (packets_of rest) in
    record {
      within = omega arith;
      answered = subst (λ (l : List Packet). IsAnsweredAt equations l call) (sym first) is;
    }

-- a case of a packet that passes is its reply
pub is_reply : (equations : Equations) (k s : ℕ) (front : List Packet) (packet : Packet) (reply : Reply)
    → k ≡ equations.k → s ≡ equations.s
    → Passes equations packet → IsCaseReply k s front packet reply → IsReply equations front packet reply
is_reply equations k s front packet (FailedCheck check at) same_k same_s passes case = absurd case
is_reply equations k s front packet (Innovative at) same_k same_s passes case = (
  passes,
  subst (λ (n : ℕ). IsCaseReply n equations.s front packet (Innovative at)) same_k (subst (λ
      (n : ℕ). IsCaseReply k n front packet (Innovative at)) same_s case),
)
is_reply equations k s front packet (NotInnovative at) same_k same_s passes case = (
  passes,
  subst (λ (n : ℕ). IsCaseReply n equations.s front packet (NotInnovative at)) same_k (subst (λ
      (n : ℕ). IsCaseReply k n front packet (NotInnovative at)) same_s case),
)
is_reply equations k s front packet (Conflicting at) same_k same_s passes case = (
  passes,
  subst (λ (n : ℕ). IsCaseReply n equations.s front packet (Conflicting at)) same_k (subst (λ
      (n : ℕ). IsCaseReply k n front packet (Conflicting at)) same_s case),
)

-- its point is the number of the front's packets
pub point_of_case : (k s : ℕ) (front : List Packet) (packet : Packet) (reply : Reply)
    → IsCaseReply k s front packet reply → point_of_reply reply ≡ length front
point_of_case k s front packet (FailedCheck check at) case = absurd case
point_of_case k s front packet (Innovative at) case = case.1
point_of_case k s front packet (NotInnovative at) case = case.1
point_of_case k s front packet (Conflicting at) case = case.1
