-- Runs of the sequential basis over calls of many callers.
-- caller: who made a call, a number. front: the packets recorded before. earlier: the calls made before.
use Rattle.std.specs.Prelude.{ℕ, Bool, ◌==◌, List, [], ◌∷◌, ◌++◌, length, map}
use Rattle.std.specs.List.{filter}
use Rattle.std.specs.Option.{option_to_list}
use Rattle.linear_spec.specs.declared.equations.Equations.{Equations}
use Rattle.linear_spec.specs.declared.packet.Packet.{Packet}
use Rattle.linear_spec.specs.declared.record.Record.{Record}
use Rattle.linear_spec.specs.Passing.{Passes}
use Rattle.linear_spec.specs.Cases.{IsFresh}
use Rattle.basis_core.specs.Calls.{KeptCall, IsAnsweredAt, recorded_by}

-- a call and who made it
pub record CallBy : Type 0 where
  pub caller : ℕ
  pub call : KeptCall

-- whether this caller made the call
abbrev pub is_by : ℕ → CallBy → Bool
is_by number made = made.caller == number

-- from a front on, calls are made in turn, and each was answered as the sequential basis does at the front that there is;
-- a recording call adds its packet to the front
abbrev pub AreAnsweredFrom : Equations → List CallBy → List Packet → Type 0
AreAnsweredFrom equations [] front = Unit {0}
AreAnsweredFrom equations (made ∷ rest) front =
    IsAnsweredAt equations front made.call × AreAnsweredFrom equations rest (front ++ option_to_list (recorded_by made.call))

-- the record of a recording call: it is numbered by how many calls its caller had made before
abbrev pub record_of : CallBy → List CallBy → List Record
record_of made earlier =
    map (λ packet. record { caller = made.caller; call = length (filter (is_by made.caller) earlier); packet = packet }) (option_to_list (recorded_by made.call))

-- the records of calls, after these earlier ones
abbrev pub records_after : List CallBy → List CallBy → List Record
records_after [] earlier = []
records_after (made ∷ rest) earlier = record_of made earlier ++ records_after rest (earlier ++ made ∷ [])

-- each packet passes, and is fresh at the front and the packets before it
abbrev pub AreInnovativeFrom : Equations → List Packet → List Packet → Type 0
AreInnovativeFrom equations [] front = Unit {0}
AreInnovativeFrom equations (packet ∷ packets) front =
    (Passes equations packet × IsFresh equations.k front packet) × AreInnovativeFrom equations packets (front ++ packet ∷ [])

-- each packet passes, and is fresh at those before it
abbrev pub AreInnovative : Equations → List Packet → Type 0
AreInnovative equations packets = AreInnovativeFrom equations packets []
