-- The payloads of records that fit.
use Rattle.std.proofs.Common.{◌≡◌, ℕ, ◌<◌, List, [], ◌∷◌, length, get_or, arith, refl, sym, subst}
use Rattle.std.specs.List.{All}
use Rattle.linear_spec.specs.declared.packet.Packet.{Packet}
use Rattle.linear_spec.specs.declared.record.Record.{Record}
use Rattle.linear_spec.specs.Packet.{Fits}
use Rattle.linear_spec.specs.Rows.{StandForAll}
use Rattle.linear_spec.specs.SequentialBasis.{packets_of}
use Rattle.back_subst.specs.Shape.{payload_length}

-- the first record's payload tells the length
pub length_at_first : (records : List Record) (other : Record) → 0 < length records → payload_length records ≡ length (get_or records 0 other).packet.payload
length_at_first [] other some = absurd (omega arith)
length_at_first (entry ∷ entries) other some = refl

-- records whose packets fit have payloads of that length
length_of_fit : (k s : ℕ) (records : List Record) → 0 < length records → All (Fits k s) (packets_of records) → payload_length records ≡ s
length_of_fit k s [] some fit = absurd (omega arith)
length_of_fit k s (entry ∷ entries) some fit = (fit 0 entry.packet (omega arith)).payload.count

-- rows that stand for k records stand for them under the lengths that the records tell
pub rows_of_full : (k s : ℕ) (records : List Record) (rows : List Packet) → 0 < k → length records ≡ k → All (Fits k s) (packets_of records)
    → StandForAll k s (packets_of records) rows → StandForAll (length records) (payload_length records) (packets_of records) rows
rows_of_full k s records rows some full fit stand =
    let long : payload_length records ≡ s = length_of_fit k s records (omega arith) fit in
    subst (λ (n : ℕ). StandForAll n (payload_length records) (packets_of records) rows) (sym full)
    (subst (λ (n : ℕ). StandForAll k n (packets_of records) rows) (sym long) stand)
