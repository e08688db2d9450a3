-- What an offer tells the rows of a sound basis, and what stays sound.
use Rattle.std.proofs.Common.{◌≡◌, ℕ, List, [], ◌∷◌, ◌++◌, sym, subst}
use Rattle.std.proofs.lemmas.List.Elements.{All-push}
use Rattle.linear_spec.specs.declared.cases.Case.{Case}
use Rattle.linear_spec.specs.declared.packet.Packet.{Packet}
use Rattle.linear_spec.specs.Packet.{Fits}
use Rattle.linear_spec.specs.Rows.{StandsFor, StandForAll}
use Rattle.linear_spec.specs.Told.{AreRowsFor, StandBefore, IsCaseAt, Tells}
use Rattle.plain_basis.specs.Basis.{IsSound}

abbrev pub JoinsLaw : Type 0
JoinsLaw = (k s : ℕ) (packets rows : List Packet) (packet row : Packet) → StandForAll k s packets rows
    → StandsFor k s packets rows packet row → StandForAll k s (packets ++ packet ∷ []) (rows ++ row ∷ [])

module _ (k s : ℕ) (packets rows : List Packet) (sound : IsSound k s packets rows) where
  pub before_of : (rows_now : List Packet) (packet : Packet) → Fits k s packet → rows_now ≡ rows → StandBefore k s packets rows_now packet
  before_of rows_now packet fits same = record {
    fits = fits;
    fit = sound.fit;
    stand = subst (StandForAll k s packets) (sym same) sound.stand;
  }

  pub rows_for : (rows_now : List Packet) (packet : Packet) → Fits k s packet → rows_now ≡ rows → AreRowsFor packet rows_now
  rows_for rows_now packet fits same = record { k = k; s = s; packets = packets; before = before_of rows_now packet fits same }

  -- the case that was told is that of the packet after those recorded
  pub told : (rows_now : List Packet) (packet : Packet) (case known : Case) → Fits k s packet → rows_now ≡ rows → case ≡ known
      → Tells rows_now packet case → IsCaseAt k s packets rows packet known
  told rows_now packet case known fits same is tells =
      subst (λ others. IsCaseAt k s packets others packet known) same
      (subst (IsCaseAt k s packets rows_now packet) is (tells k s packets (before_of rows_now packet fits same)))

  pub sound_after : JoinsLaw → (packet row : Packet) → Fits k s packet → StandsFor k s packets rows packet row
      → IsSound k s (packets ++ packet ∷ []) (rows ++ row ∷ [])
  sound_after joins packet row fits stands = record {
    narrow = sound.narrow;
    fit = All-push (Fits k s) packets packet sound.fit fits;
    stand = joins k s packets rows packet row sound.stand stands;
  }
