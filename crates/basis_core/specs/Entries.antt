-- The calls of a trace as events, each beside its answer.
-- number: that of a caller. packets, failed: of the offers of a caller, in its own order, the packets and the first checks
-- that they failed.
use Rattle.std.specs.Prelude.{◌≡◌, ℕ, suc, ◌==◌, ◌&&◌, Bool, List, [], ◌∷◌, ◌++◌, length, Option}
use Rattle.linear_spec.specs.declared.packet.Packet.{Packet}
use Rattle.linear_spec.specs.declared.reply.Reply.{Reply}
use Rattle.linear_spec.specs.declared.reply.Reply.TheVariants.{FailedCheck, Innovative, NotInnovative, Conflicting}
use Rattle.basis_core.specs.declared.trace.Answer.{Answer}
use Rattle.basis_core.specs.declared.trace.Answer.TheVariants.{Offered, Drew}
use Rattle.basis_core.specs.declared.trace.Call.{Call}
use Rattle.basis_core.specs.declared.trace.CallerTrace.{CallerTrace}
use Rattle.basis_core.specs.declared.trace.CallerOffers.{CallerOffers}
use Rattle.basis_core.specs.declared.trace.Event.TheVariants.{Offer, Draw}
use Rattle.basis_core.specs.declared.entry.Entry.{Entry}
use Rattle.basis_core.specs.Calls.{point_of_reply, point_of_drawn}
use Rattle.basis_core.specs.Merge.{merge_by}

-- one call and the calls after it, which `rest` makes of what is left of the packets and checks
abbrev pub entry_and_rest : ℕ → ℕ → Answer → List Packet → List (Option ℕ) → (List Packet → List (Option ℕ) → List Entry) → List Entry
entry_and_rest number tag (Offered reply) [] failed rest = []
entry_and_rest number tag (Offered reply) (packet ∷ packets) [] rest = []
entry_and_rest number tag (Offered reply) (packet ∷ packets) (check ∷ failed) rest =
    record { event = Offer number tag check packet; answer = Offered reply } ∷ rest packets failed
entry_and_rest number tag (Drew drawn) packets failed rest = record { event = Draw number tag; answer = Drew drawn } ∷ rest packets failed

-- the calls of one caller: each offer takes the next packet and check
abbrev pub entries_of_caller : ℕ → List Call → List Packet → List (Option ℕ) → List Entry
entries_of_caller number [] packets failed = []
entries_of_caller number (call ∷ calls) packets failed =
    entry_and_rest number call.tag call.answer packets failed (λ packets' failed'. entries_of_caller number calls packets' failed')

-- the calls of callers, in the order in which the callers stand
abbrev pub entries_of : List CallerTrace → List CallerOffers → List Entry
entries_of [] offers = []
entries_of (caller ∷ callers) [] = []
entries_of (caller ∷ callers) (own ∷ offers) =
    entries_of_caller caller.number caller.calls.items own.packets.items own.failed.items ++ entries_of callers offers

abbrev pub one_more_if_offered : Answer → ℕ → ℕ
one_more_if_offered (Offered reply) count = suc count
one_more_if_offered (Drew drawn) count = count

-- how many of the calls are offers
abbrev pub count_of_offers : List Call → ℕ
count_of_offers [] = 0
count_of_offers (call ∷ calls) = one_more_if_offered call.answer (count_of_offers calls)

-- a caller's offers have their packets and checks
pub record HasOffers (caller : CallerTrace) (own : CallerOffers) : Type 0 where
  pub packets : length own.packets.items ≡ count_of_offers caller.calls.items
  pub failed : length own.failed.items ≡ count_of_offers caller.calls.items

abbrev pub point_of_answer : Answer → ℕ
point_of_answer (Offered reply) = point_of_reply reply
point_of_answer (Drew drawn) = point_of_drawn drawn

abbrev pub count_of_reply : Reply → ℕ
count_of_reply (FailedCheck check front) = 0
count_of_reply (Innovative at) = 1
count_of_reply (NotInnovative front) = 0
count_of_reply (Conflicting front) = 0

-- how many packets an answer says to be recorded
abbrev pub count_of_answer : Answer → ℕ
count_of_answer (Offered reply) = count_of_reply reply
count_of_answer (Drew drawn) = 0

-- an answer of this point and count
abbrev pub stands_in : ℕ → ℕ → Answer → Bool
stands_in point count answer = (point_of_answer answer == point) && (count_of_answer answer == count)

-- the entries put in the order of their points
abbrev pub merged_entries : List Entry → List Entry
merged_entries entries = merge_by (λ entry. point_of_answer entry.answer) (λ entry. count_of_answer entry.answer) entries
