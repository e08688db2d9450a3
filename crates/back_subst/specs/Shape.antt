-- The lengths of the packets of records.
use Rattle.std.specs.Prelude.{ℕ, List, [], ◌∷◌, length}
use Rattle.linear_spec.specs.declared.record.Record.{Record}

-- the number of symbols of the payloads: those of the first record
abbrev pub payload_length : List Record → ℕ
payload_length [] = 0
payload_length (entry ∷ entries) = length entry.packet.payload
