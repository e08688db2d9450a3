-- The callers of a trace, with their calls, as legal histories see them.
use Rattle.std.specs.Prelude.{ℕ, ◌+◌, ◌<◌, ◌≤◌, ◌^◌, List, [], ◌∷◌, map, Some, None}
use Rattle.linear_spec.specs.declared.equations.Equations.{Equations}
use Rattle.linear_spec.specs.declared.record.Drawn.TheVariants.{Nothing}
use Rattle.linear_spec.specs.Passing.{Passes, IsFirstFailing}
use Rattle.basis_core.specs.declared.trace.Answer.{Answer}
use Rattle.basis_core.specs.declared.trace.Answer.TheVariants.{Offered, Drew}
use Rattle.basis_core.specs.declared.trace.CallerTrace.{CallerTrace}
use Rattle.basis_core.specs.declared.trace.CallerOffers.{CallerOffers}
use Rattle.basis_core.specs.declared.trace.Event.{Event}
use Rattle.basis_core.specs.declared.trace.Event.TheVariants.{Offer, Draw}
use Rattle.basis_core.specs.declared.entry.Entry.{Entry}
use Rattle.basis_core.specs.Calls.{KeptCall, KeptOffer, KeptDraw}
use Rattle.basis_core.specs.Run.{CallBy}
use Rattle.basis_core.specs.Merge.{CallsOf}
use Rattle.basis_core.specs.Machine.{caller_of}
use Rattle.basis_core.specs.Entries.{entries_of_caller}

-- the call that an event and its answer are. An offer answered as a draw, or a draw as an offer, is no call, and is not met
abbrev pub kept_as : Event → Answer → KeptCall
kept_as (Offer caller tag failed packet) (Offered reply) = KeptOffer tag packet reply
kept_as (Offer caller tag failed packet) (Drew drawn) = KeptDraw tag drawn
kept_as (Draw caller tag) (Offered reply) = KeptDraw tag Nothing
kept_as (Draw caller tag) (Drew drawn) = KeptDraw tag drawn

abbrev pub kept_of : Entry → KeptCall
kept_of entry = kept_as entry.event entry.answer

-- the call and who made it
abbrev pub made_of : Entry → CallBy
made_of entry = record { caller = caller_of entry.event; call = kept_of entry }

-- each caller of a trace with its calls
abbrev pub calls_of : List CallerTrace → List CallerOffers → List CallsOf
calls_of [] offers = []
calls_of (caller ∷ callers) [] = []
calls_of (caller ∷ callers) (own ∷ offers) =
    record { number = caller.number; calls = map kept_of (entries_of_caller caller.number caller.calls.items own.packets.items own.failed.items) } ∷ calls_of callers offers

-- the callers stand by number, strictly rising from this number on, and have numbers of 32 bits
abbrev pub AreRising : List CallsOf → ℕ → Type 0
AreRising [] from = Unit {0}
AreRising (caller ∷ callers) from = (from ≤ caller.number) × (caller.number < 2 ^ 32) × AreRising callers (caller.number + 1)

-- the event tells the first check that its packet fails, or rightly that it passes
abbrev pub HasItsCheck : Equations → Event → Type 0
HasItsCheck equations (Offer caller tag None packet) = Passes equations packet
HasItsCheck equations (Offer caller tag (Some check) packet) = IsFirstFailing equations packet check
HasItsCheck equations (Draw caller tag) = Unit {0}

-- the answer is of the event's kind
abbrev pub IsCall : Event → Answer → Type 0
IsCall (Offer caller tag failed packet) (Offered reply) = Unit {0}
IsCall (Offer caller tag failed packet) (Drew drawn) = ⊥
IsCall (Draw caller tag) (Offered reply) = ⊥
IsCall (Draw caller tag) (Drew drawn) = Unit {0}
