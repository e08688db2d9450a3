-- What a pass keeps: calls with the packets of their offers, and records with the rows that stand for them.
use Rattle.std.proofs.Common.{◌≡◌, ◌≢◌, ℕ, suc, ◌+◌, ◌-◌, ◌*◌, ◌<◌, ◌≤◌, ◌^◌, Option, List, [], ◌∷◌, ◌++◌, map, length, take, get_or, refl, sym, ap, ◌∙◌, subst, arith}
use Rattle.std.specs.declared.snapshot.Snapshot.{Snapshot}
use Rattle.std.specs.List.{All}
use Rattle.std.proofs.Math.Nat.{add-mul, mul-le-mul_right}
use Rattle.std.proofs.lemmas.List.{append-nil, append_assoc, length-append, length-map, map-append}
use Rattle.atomic_table.specs.Seated.{TableId}
use Rattle.linear_spec.specs.declared.equations.Equations.{Equations}
use Rattle.linear_spec.specs.declared.packet.Packet.{Packet}
use Rattle.linear_spec.specs.declared.record.Record.{Record}
use Rattle.linear_spec.specs.List.{ListValue}
use Rattle.linear_spec.specs.Cases.{IsFresh}
use Rattle.linear_spec.specs.Packet.{Fits}
use Rattle.linear_spec.specs.Passing.{Passes}
use Rattle.linear_spec.specs.Rows.{StandForAll}
use Rattle.linear_spec.specs.declared.reply.Reply.{Reply}
use Rattle.linear_spec.specs.declared.reply.Reply.TheVariants.{FailedCheck, Innovative, NotInnovative, Conflicting}
use Rattle.linear_spec.specs.SequentialBasis.{IsCaseReply, IsReply, packets_of, recorded}
use Rattle.basis_core.specs.declared.trace.Answer.{Answer}
use Rattle.basis_core.specs.declared.trace.Answer.TheVariants.{Offered, Drew}
use Rattle.basis_core.specs.declared.trace.Call.{Call}
use Rattle.basis_core.specs.Calls.{KeptCall, KeptOffer, call_of}
use Rattle.basis_core.specs.Legal.{IsAnsweredOver, IsLegalHistory, record_by}
use Rattle.basis_core.specs.Merge.{only}
use Rattle.basis_core.specs.Run.{AreInnovative, AreInnovativeFrom}
use Rattle.table_rows.specs.declared.view.Parameters.{Parameters}
use Rattle.table_rows.specs.declared.view.CallerView.{CallerView}
use Rattle.table_rows.specs.declared.view.FounderView.{FounderView}
use Rattle.table_rows.specs.RegionLaws.{RecordLaws}
use Rattle.table_rows.specs.Seats.{SeatValue}
use Rattle.table_rows.specs.Good.{IsGood, offers_of, packet_at, row_at}
use Rattle.table_rows.specs.Layout.{caller_in}
use Rattle.table_rows.specs.Views.{words_of_row}
use Rattle.shared_basis.specs.declared.desk.Desk.{Desk}
use Rattle.shared_basis.specs.Bases.{AreParameters, HasFounder, IsPass, PassValue, kept_as, kept_calls}
use Rattle.shared_basis.specs.Desks.{IsDesk}
use Rattle.shared_basis.specs.Passes.{HasCalled, IsAtFront, SeesOn}
use Rattle.shared_basis.specs.Regions.{HasLookedOn, HasSettled, record_at, records_seen, regions_seen}
use Rattle.shared_basis.proofs.HistoryLemmas.{IsHistory, OtherRecordsLaw, OthersLaw, SeenLaw, StepLaw, answered_over, history_called, history_on, is_reply, others_found, point_of_case, recorded_is}

-- calls that are kept with packets are as many as there are
pub kept_count : (calls : List Call) (packets : List Packet) → length packets ≡ length calls
    → length (kept_calls calls packets) ≡ length calls
kept_count [] packets same = refl
kept_count (call ∷ calls) [] same = absurd (omega arith)
kept_count (call ∷ calls) (packet ∷ packets) same = ap suc (kept_count calls packets (omega arith))

-- one call more, with its packet, is kept as the last
pub kept_more : (calls : List Call) (packets : List Packet) (call : Call) (packet : Packet) → length packets ≡ length calls
    → kept_calls (calls ++ call ∷ []) (packets ++ packet ∷ [])
    ≡ kept_calls calls packets ++ kept_as call.tag call.answer packet ∷ []
kept_more [] [] call packet same = refl
kept_more [] (p ∷ packets) call packet same = absurd (omega arith)
kept_more (c ∷ calls) [] call packet same = absurd (omega arith)
kept_more (c ∷ calls) (p ∷ packets) call packet same = ap (λ l. kept_as c.tag c.answer p ∷ l)
    (kept_more calls packets call packet (omega arith))

-- a call that is kept is that call
call_of_kept : (tag : ℕ) (answer : Answer) (packet : Packet)
    → call_of (kept_as tag answer packet) ≡ record { tag = tag; answer = answer }
call_of_kept tag (Offered reply) packet = refl
call_of_kept tag (Drew drawn) packet = refl

-- the calls without their packets
pub calls_of_kept : (calls : List Call) (packets : List Packet) → length packets ≡ length calls
    → map call_of (kept_calls calls packets) ≡ calls
calls_of_kept [] packets same = refl
calls_of_kept (call ∷ calls) [] same = absurd (omega arith)
calls_of_kept (call ∷ calls) (packet ∷ packets) same =
    λ i. call_of_kept call.tag call.answer packet i ∷ calls_of_kept calls packets (omega arith) i

-- a pass after its desk, its lists and its room have become others
pub pass_after : (d e : Desk) (founder : Option (SeatValue FounderView)) (number : ℕ) (calls more : ListValue Call)
    (offered others : List Packet)
    (offers_room spare more_offers more_spare : ℕ) → IsPass d founder number calls offered offers_room spare
    → IsDesk e → e.seat.table ≡ d.seat.table → e.seat.view.sight.parameters ≡ d.seat.view.sight.parameters
    → e.seat.view.number ≡ d.seat.view.number
    → length others ≡ length more.items → more_spare ≤ more.spare → more_spare ≤ more_offers
    → length more.items + more_spare < 2 ^ 32
    → IsHistory d.seat.view.sight.parameters.equations.value number (kept_calls more.items others) (records_seen e.seat.view)
    → IsPass e founder number more others more_offers more_spare
pass_after d e founder number calls more offered others offers_room spare more_offers more_spare pass desk table parameters same_number paired room room_beside few history = record {
  parameters = subst AreParameters (sym parameters) pass.parameters;
  desk = desk;
  number_is = pass.number_is ∙ sym same_number;
  number_below = subst (λ (p : Parameters). number < p.passes) (sym parameters) pass.number_below;
  founder_is = subst (λ (p : Parameters). HasFounder e.seat.table p number founder) (sym parameters)
      (subst (λ (t : TableId). HasFounder t d.seat.view.sight.parameters number founder) (sym table) pass.founder_is);
  paired = paired;
  room = room;
  room_beside = room_beside;
  few = few;
  legal = subst (λ (p : Parameters). IsLegalHistory p.equations.value (only number (kept_calls more.items others))
      (records_seen e.seat.view)) (sym parameters) history.legal;
  seen = history.seen;
}

-- a pass of which the lists have more room
pub with_room : (d : Desk) (founder : Option (SeatValue FounderView)) (number : ℕ) (calls more : ListValue Call)
    (offered others : List Packet)
    (offers_room spare more_offers more_spare : ℕ) → IsPass d founder number calls offered offers_room spare
    → more.items ≡ calls.items → others ≡ offered
    → more_spare ≤ more.spare → more_spare ≤ more_offers → length calls.items + more_spare < 2 ^ 32
    → IsPass d founder number more others more_offers more_spare
with_room d founder number calls more offered others offers_room spare more_offers more_spare pass items packets room room_beside few =
    let kept : kept_calls calls.items offered
    ≡ kept_calls more.items others = λ i. kept_calls (sym items i) (sym packets i) in
    pass_after d d founder number calls more offered others offers_room spare more_offers more_spare pass pass.desk refl refl refl
    (ap length packets ∙ pass.paired ∙ ap length (sym items)) room room_beside
    (subst (λ (l : List Call). length l + more_spare < 2 ^ 32) (sym items) few)
    (subst (λ (l : List KeptCall). IsHistory d.seat.view.sight.parameters.equations.value number l
    (records_seen d.seat.view)) kept (record { legal = pass.legal; seen = pass.seen }))

-- a pass that made one call more
pub pass_called : (d e : Desk) (founder : Option (SeatValue FounderView)) (number : ℕ) (calls more : ListValue Call)
    (offered others : List Packet)
    (offers_room spare more_offers : ℕ) (call : Call) (packet : Packet)
    → IsPass d founder number calls offered offers_room spare
    → IsDesk e → e.seat.table ≡ d.seat.table → e.seat.view.sight.parameters ≡ d.seat.view.sight.parameters
    → e.seat.view.number ≡ d.seat.view.number
    → 0 < spare → more.items ≡ calls.items ++ call ∷ [] → more.spare + 1 ≡ calls.spare
    → others ≡ offered ++ packet ∷ [] → more_offers + 1 ≡ offers_room
    → IsHistory d.seat.view.sight.parameters.equations.value number
    (kept_calls calls.items offered ++ kept_as call.tag call.answer packet ∷ []) (records_seen e.seat.view)
    → IsPass e founder number more others more_offers (spare - 1)
pass_called d e founder number calls more offered others offers_room spare more_offers call packet pass desk table parameters same_number some items less packets less_offers history =
    let long : length more.items ≡ length calls.items + 1 = ap length items ∙ length-append calls.items (call ∷ []) in
    let long_beside : length others ≡ length offered + 1 = ap length packets ∙ length-append offered (packet ∷ []) in
    let paired = pass.paired in let room = pass.room in let beside = pass.room_beside in let few = pass.few in
    let kept : kept_calls more.items others ≡ kept_calls calls.items offered ++ kept_as call.tag call.answer packet ∷ [] =
    (λ i. kept_calls (items i) (packets i)) ∙ kept_more calls.items offered call packet pass.paired in
    pass_after d e founder number calls more offered others offers_room spare more_offers
    (spare - 1) pass desk table parameters same_number
    (omega arith) (omega arith) (omega arith) (omega arith)
    (subst (λ (l : List KeptCall). IsHistory d.seat.view.sight.parameters.equations.value number l
    (records_seen e.seat.view)) (sym kept) history)

-- what its calls are then
pub has_called : (before after : PassValue) (calls more : List Call) (offered others : List Packet) (call : Call)
    (packet : Packet) → length offered ≡ length calls
    → before.calls ≡ kept_calls calls offered → after.calls ≡ kept_calls more others → more ≡ calls ++ call ∷ []
    → others ≡ offered ++ packet ∷ []
    → after.spare + 1 ≡ before.spare → HasCalled before after (kept_as call.tag call.answer packet)
has_called before after calls more offered others call packet paired was is items packets less = record {
  calls = is ∙ (λ i. kept_calls (items i) (packets i)) ∙ kept_more calls offered call packet paired
      ∙ ap (λ (l : List KeptCall). l ++ kept_as call.tag call.answer packet ∷ []) (sym was);
  spare = less;
}

-- a desk has seen as many records as it knows regions
pub seen_count : (d : Desk) → IsDesk d → length (records_seen d.seat.view) ≡ length d.known.items
seen_count d desk =
    length-map (map words_of_row d.seat.view.sight.front.read) (record_at d.seat.view.sight.parameters)
    ∙ length-map d.seat.view.sight.front.read words_of_row ∙ desk.sound.shaped.sight.rows ∙ ap length (sym desk.known)

-- the packets that stand beside calls, with one more
pub offered_more : (offered : List (Snapshot Packet)) (one : Snapshot Packet) (packet : Packet) → one.value ≡ packet
    → map (λ snapshot. snapshot.value) (offered ++ one ∷ []) ≡ map (λ snapshot. snapshot.value) offered ++ packet ∷ []
offered_more offered one packet is = map-append (λ (s : Snapshot Packet). s.value) offered (one ∷ [])
    ∙ ap (λ (p : Packet). map (λ (s : Snapshot Packet). s.value) offered ++ p ∷ []) is

-- the packets of the records in regions
pub packets_seen_are : (p : Parameters) (regions : List (List ℕ))
    → packets_of (map (record_at p) regions) ≡ map (packet_at p) regions
packets_seen_are p [] = refl
packets_seen_are p (region ∷ regions) = ap (λ l. packet_at p region ∷ l) (packets_seen_are p regions)

-- packets each of which passes, and is fresh at a front and those before it
innovative_from : (equations : Equations) (front packets : List Packet) → All (Passes equations) packets
    → ((n : ℕ) (packet : Packet) → n < length packets
    → IsFresh equations.k (front ++ take n packets) (get_or packets n packet))
    → AreInnovativeFrom equations packets front
innovative_from equations front [] pass fresh = tt
innovative_from equations front (packet ∷ packets) pass fresh = (
  (pass 0 packet (omega arith), subst (λ l. IsFresh equations.k l packet) (append-nil front) (fresh 0 packet (omega arith))),
  innovative_from equations (front ++ packet ∷ []) packets (λ n other below. pass (suc n) other (omega arith))
      (λ n other below. subst (λ l. IsFresh equations.k l (get_or packets n other)) (sym (append_assoc front
      (packet ∷ []) (take n packets))) (fresh (suc n) other (omega arith))),
)

module _ (laws : RecordLaws) (p : Parameters) (regions : List (List ℕ)) (good : IsGood p regions) where
  pub seen_fit : All (Fits p.k p.s) (packets_of (map (record_at p) regions))
  seen_fit = subst (λ l. All (Fits p.k p.s) l) (sym (packets_seen_are p regions)) (laws.fit p regions good)

  pub seen_stand : StandForAll p.k p.s (packets_of (map (record_at p) regions)) (map (row_at p) regions)
  seen_stand = subst (λ l. StandForAll p.k p.s l (map (row_at p) regions)) (sym (packets_seen_are p regions))
      (laws.stand p regions good)

  -- the records of good regions are innovative one after another
  pub seen_innovative : p.k ≡ p.equations.value.k → AreInnovative p.equations.value (packets_of (map (record_at p) regions))
  seen_innovative same = subst (λ l. AreInnovativeFrom p.equations.value l []) (sym (packets_seen_are p regions))
      (innovative_from p.equations.value [] (map (packet_at p) regions) (laws.pass p regions good)
      (λ n packet below. subst (λ k. IsFresh k (take n (map (packet_at p) regions)) (get_or (map
      (packet_at p) regions) n packet)) same (laws.fresh p regions good n packet below)))

-- the records of a view after regions were found behind those of another
pub records_by : (v w : CallerView) (more : List (List ℕ)) → w.sight.parameters ≡ v.sight.parameters
    → regions_seen w ≡ regions_seen v ++ more
    → records_seen w ≡ map (record_at v.sight.parameters) (regions_seen v ++ more) ++ []
records_by v w more parameters regions = (λ i. map (record_at (parameters i)) (regions i))
    ∙ sym (append-nil (map (record_at v.sight.parameters) (regions_seen v ++ more)))

-- what a desk has seen is innovative
pub desk_innovative : RecordLaws → (d : Desk) → IsDesk d
    → d.seat.view.sight.parameters.k ≡ d.seat.view.sight.parameters.equations.value.k
    → AreInnovative d.seat.view.sight.parameters.equations.value (packets_of (records_seen d.seat.view))
desk_innovative laws d desk same = seen_innovative laws d.seat.view.sight.parameters (regions_seen d.seat.view)
    (desk.sound.good desk.whole) same

-- the regions that a look found are others'
pub looked_others : (d e : Desk) (more : List (List ℕ)) → IsDesk d → IsDesk e → e.seat.view.number ≡ d.seat.view.number
    → e.seat.view.own ≡ d.seat.view.own
    → regions_seen e.seat.view ≡ regions_seen d.seat.view ++ more
    → All (λ region. caller_in region ≢ d.seat.view.number) more
looked_others d e more desk desk_after number own regions =
    others_found d.seat.view.number (regions_seen d.seat.view) more
    ((λ i. offers_of (sym number i) (sym regions i)) ∙ sym (desk_after.sound.own desk_after.whole) ∙ own
    ∙ desk.sound.own desk.whole)

-- a pass whose desk looked on
pub pass_looked : RecordLaws → OtherRecordsLaw → OthersLaw
    → (d e : Desk) (founder : Option (SeatValue FounderView)) (number k : ℕ) (calls : ListValue Call) (offered : List Packet)
    (offers_room spare : ℕ) → IsPass d founder number calls offered offers_room spare → IsDesk e
    → e.seat.table ≡ d.seat.table → HasLookedOn k d.seat.view e.seat.view
    → IsPass e founder number calls offered offers_room spare
pass_looked laws other_records others d e founder number k calls offered offers_room spare pass desk table looked =
    let v = d.seat.view in let w = e.seat.view in
    let seen : records_seen w
    ≡ map (record_at v.sight.parameters)
    (regions_seen v ++ looked.more) ++ [] = records_by v w looked.more looked.parameters looked.regions in
    let are : AreParameters w.sight.parameters = subst AreParameters (sym looked.parameters) pass.parameters in
    let found = looked_others d e looked.more pass.desk desk looked.number looked.own looked.regions in
    let history = history_on other_records others v w number (kept_calls calls.items offered) looked.more []
    (record { legal = pass.legal; seen = pass.seen })
    looked.parameters pass.parameters.few_passes desk.sound desk.whole
    (subst (λ (n : ℕ). All (λ region. caller_in region ≢ n) looked.more) (sym pass.number_is) found) seen
    (desk_innovative laws e desk are.k) in
    pass_after d e founder number calls calls offered offered offers_room spare offers_room spare pass desk table looked.parameters looked.number
    pass.paired pass.room pass.room_beside pass.few
    (subst (IsHistory v.sight.parameters.equations.value number (kept_calls calls.items offered))
    (sym (append-nil (map (record_at v.sight.parameters) (regions_seen v ++ looked.more))) ∙ sym seen) history)

-- what is seen goes on from the same value
pub sees_before : (a b after : PassValue) → a ≡ b → SeesOn a after → SeesOn b after
sees_before a b after same sees = subst (λ (p : PassValue). SeesOn p after) same sees

-- the first records of a view are those that another had seen
pub seen_on : (v : CallerView) (records : List Record) (more : List (List ℕ)) (rest : List Record)
    → records ≡ map (record_at v.sight.parameters) (regions_seen v ++ more) ++ rest
    → (later : List Record) × (records ≡ records_seen v ++ later)
seen_on v records more rest is = (
  map (record_at v.sight.parameters) more ++ rest,
  is ∙ ap (λ (l : List Record). l ++ rest) (map-append (record_at v.sight.parameters) (regions_seen v) more)
      ∙ append_assoc (records_seen v) (map (record_at v.sight.parameters) more) rest,
)

-- words read of regions known before and of more are no more than those of all that are seen
pub reads_at_most : (before known more seen width reads : ℕ) → reads ≤ before + known * width + more * width
    → known + more ≤ seen → reads ≤ before + seen * width
reads_at_most before known more seen width reads most fewer =
    let all = mul-le-mul_right width fewer in
    let both = add-mul known more width in
    omega arith

-- an offer that was settled: d, e are the desks before and after, and reads is what was read before regions were found
module _ (d e : Desk) (number call tag reads : ℕ) (packet : Packet) (reply : Reply) (settled : HasSettled call packet
    (record d.seat.view { reads = reads }) e.seat.view reply) where
  -- the records at which it was answered
  pub answered_at : List Record
  answered_at = map (record_at d.seat.view.sight.parameters) (regions_seen d.seat.view ++ settled.more)

  pub front_case : IsCaseReply d.seat.view.sight.parameters.k d.seat.view.sight.parameters.s
      (packets_of answered_at) packet reply
  unfolding answered_at
  front_case = subst (λ
      (l : List Packet). IsCaseReply d.seat.view.sight.parameters.k d.seat.view.sight.parameters.s l packet reply)
      (sym (packets_seen_are d.seat.view.sight.parameters (regions_seen d.seat.view ++ settled.more))) settled.case

  pub front_seen : records_seen e.seat.view
      ≡ answered_at ++ recorded (record { caller = d.seat.view.number; call = call; packet = packet }) reply
  unfolding answered_at
  front_seen = settled.records

  front_reply : AreParameters d.seat.view.sight.parameters → Passes d.seat.view.sight.parameters.equations.value packet
      → IsReply d.seat.view.sight.parameters.equations.value (packets_of answered_at) packet reply
  front_reply are passes = is_reply d.seat.view.sight.parameters.equations.value d.seat.view.sight.parameters.k d.seat.view.sight.parameters.s
      (packets_of answered_at) packet reply are.k are.s passes front_case

  -- the reply is the one at those records
  pub offer_answered : AreParameters d.seat.view.sight.parameters
      → Passes d.seat.view.sight.parameters.equations.value packet
      → IsAnsweredOver d.seat.view.sight.parameters.equations.value (records_seen e.seat.view) (KeptOffer tag packet reply)
  offer_answered are passes = subst (λ (l : List Record). IsAnsweredOver d.seat.view.sight.parameters.equations.value l
      (KeptOffer tag packet reply)) (sym front_seen)
      (answered_over d.seat.view.sight.parameters.equations.value answered_at _ (KeptOffer tag packet reply)
      (front_reply are passes)
      (point_of_case d.seat.view.sight.parameters.k d.seat.view.sight.parameters.s
      (packets_of answered_at) packet reply front_case
      ∙ length-map answered_at (λ (r : Record). r.packet)))

  -- the history goes on with the regions found, and then with the offer
  pub offer_history : RecordLaws → OtherRecordsLaw → OthersLaw → StepLaw → SeenLaw → (calls : List KeptCall)
      → AreParameters d.seat.view.sight.parameters
      → IsHistory d.seat.view.sight.parameters.equations.value number calls (records_seen d.seat.view)
      → number ≡ d.seat.view.number → call ≡ length calls
      → IsDesk e → Passes d.seat.view.sight.parameters.equations.value packet
      → IsHistory d.seat.view.sight.parameters.equations.value number (calls ++ KeptOffer tag packet reply ∷ [])
      (records_seen e.seat.view)
  unfolding answered_at
  offer_history laws other_records others step seen calls are history number_is count desk passes =
      let equations : Equations = d.seat.view.sight.parameters.equations.value in
      let are_after : AreParameters e.seat.view.sight.parameters = subst AreParameters (sym settled.parameters) are in
      let found = history_on other_records others d.seat.view e.seat.view number calls settled.more
      (recorded (record { caller = d.seat.view.number; call = call; packet = packet }) reply) history settled.parameters are.few_passes desk.sound desk.whole
      (subst (λ (n : ℕ). All (λ region. caller_in region ≢ n) settled.more)
      (sym number_is) settled.others) settled.records (desk_innovative laws e desk are_after.k) in
      let called = history_called step seen equations number calls answered_at (KeptOffer tag packet reply) found
      (front_reply are passes) in
      let same : answered_at ++ record_by number (length calls) (KeptOffer tag packet reply) ≡ records_seen e.seat.view =
      ap (λ (l : List Record). answered_at ++ l) (recorded_is number (length calls) tag packet reply
      ∙ (λ i. recorded (record { caller = number_is i; call = sym count i; packet = packet }) reply))
      ∙ sym settled.records in
      subst (IsHistory equations number (calls ++ KeptOffer tag packet reply ∷ [])) same called

  -- how many records were seen: those known before, those found, and maybe the offer's own
  pub offer_count : (known : ℕ) → length (records_seen d.seat.view) ≡ known
      → known + length settled.more ≤ length (records_seen e.seat.view)
  unfolding answered_at
  offer_count known is =
      let all = ap length front_seen
      ∙ length-append answered_at (recorded
      (record { caller = d.seat.view.number; call = call; packet = packet }) reply) in
      let long = length-map (regions_seen d.seat.view ++ settled.more) (record_at d.seat.view.sight.parameters) in
      let both = length-append (regions_seen d.seat.view) settled.more in
      let before = length-map (regions_seen d.seat.view) (record_at d.seat.view.sight.parameters) in
      omega arith

-- where an offer's answer stands among the records that are seen after it
pub at_front : (before after : PassValue) (k s number call : ℕ) (packet : Packet) (reply : Reply) (front : List Record)
    → IsCaseReply k s (packets_of front) packet reply
    → after.seen ≡ front ++ recorded (record { caller = number; call = call; packet = packet }) reply
    → number ≡ before.number → call ≡ length before.calls
    → IsAtFront before after packet reply
at_front before after k s number call packet (FailedCheck check at) front case seen number_is count = absurd case
at_front before after k s number call packet (NotInnovative at) front case seen number_is count =
    case.1 ∙ length-map front (λ (r : Record). r.packet) ∙ ap length (sym (seen ∙ append-nil front))
at_front before after k s number call packet (Conflicting at) front case seen number_is count =
    case.1 ∙ length-map front (λ (r : Record). r.packet) ∙ ap length (sym (seen ∙ append-nil front))
at_front before after k s number call packet (Innovative at) front case seen number_is count = (
  front,
  case.1 ∙ length-map front (λ (r : Record). r.packet),
  seen ∙ (λ i. front ++ record { caller = number_is i; call = count i; packet = packet } ∷ []),
)
