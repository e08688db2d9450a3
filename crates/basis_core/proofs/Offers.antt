-- What an offer does to a sound machine, from what the rows tell of its packet.
use Rattle.std.proofs.Common.{◌≡◌, ℕ, ◌<◌, ◌≤◌, List, [], ◌∷◌, ◌++◌, length, sym, ap, ◌∙◌, subst, arith}
use Rattle.std.specs.List.{All}
use Rattle.std.proofs.lemmas.List.{length-map, map_push}
use Rattle.std.proofs.lemmas.List.Elements.{All-push}
use Rattle.linear_spec.specs.declared.cases.Case.{Case}
use Rattle.linear_spec.specs.declared.cases.Case.TheVariants.{Fresh}
use Rattle.linear_spec.specs.declared.packet.Packet.{Packet}
use Rattle.linear_spec.specs.declared.record.Record.{Record}
use Rattle.linear_spec.specs.Packet.{Fits}
use Rattle.linear_spec.specs.RowLaws.{DecisionLaws, RowLaws}
use Rattle.linear_spec.specs.Rows.{StandForAll}
use Rattle.linear_spec.specs.SequentialBasis.{packets_of}
use Rattle.linear_spec.specs.Told.{AreRowsFor, IsCaseAt, StandBefore, Tells}
use Rattle.basis_core.specs.Machine.{IsSound}

-- the number of records is one of 16 bits
pub few : (k s : ℕ) (records : List Record) (rows : List Packet) → IsSound k s records rows
    → RowLaws → length records < 65536
few k s records rows sound laws =
    let most = laws.at_most k s (packets_of records) rows sound.stand in
    let count = sound.stand.count in
    let narrow = sound.narrow in
    let long = length-map records (λ r. r.packet) in
    omega arith

module _ (k s : ℕ) (records : List Record) (rows rows_now : List Packet) (packet : Packet) (sound : IsSound k s records rows) (fits : Fits k s packet) (same : rows_now ≡ rows) where
  before : StandBefore k s (packets_of records) rows_now packet
  before = record {
    fits = fits;
    fit = sound.fit;
    stand = subst (StandForAll k s (packets_of records)) (sym same) sound.stand;
  }

  pub are_rows : AreRowsFor packet rows_now
  are_rows = record { k = k; s = s; packets = packets_of records; before = before }

  pub case_here : (case : Case) → Tells rows_now packet case → IsCaseAt k s (packets_of records) rows_now packet case
  case_here case tells = tells k s (packets_of records) before

  pub sound_after : DecisionLaws → (row : Packet) (r : Record) (records_next : List Record) (rows_next : List Packet) → Tells rows_now packet (Fresh row)
      → r.packet ≡ packet → records_next ≡ records ++ r ∷ [] → rows_next ≡ rows_now ++ row ∷ [] → IsSound k s records_next rows_next
  sound_after laws row r records_next rows_next tells copied records_are rows_are =
      let stand = laws.joins k s (packets_of records) rows_now packet row before.stand (case_here (Fresh row) tells).1 in
      let packets : packets_of records_next ≡ packets_of records ++ packet ∷ [] =
      ap packets_of records_are ∙ map_push (λ r. r.packet) records r ∙ ap (λ p. packets_of records ++ p ∷ []) copied in
      record {
        narrow = sound.narrow;
        fit = subst (All (Fits k s)) (sym packets) (All-push (Fits k s) (packets_of records) packet sound.fit fits);
        stand = subst (λ ps. StandForAll k s ps rows_next) (sym packets) (subst (StandForAll k s (packets_of records ++ packet ∷ [])) (sym rows_are) stand);
      }
