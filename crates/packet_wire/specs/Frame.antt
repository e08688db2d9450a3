-- A frame: ten bytes of head, and a body (docs/FORMATS.md).
use Rattle.std.specs.Prelude.{ℕ, List, ◌∷◌, ◌++◌, length}
use Rattle.std.specs.Int.{w32, to_be_bytes}
use Rattle.packet_wire.specs.declared.frame.Kind.{Kind}
use Rattle.packet_wire.specs.declared.frame.Kind.TheVariants.{Manifest, Ticket, Packet, End}

-- the number of each kind
abbrev pub number_of : Kind → ℕ
number_of Manifest = 1
number_of Ticket = 2
number_of Packet = 3
number_of End = 4

-- the letters AVLN, the version, the kind, and the length of the body
unfoldable pub head : ℕ → ℕ → List ℕ
head kind len = 65 ∷ 86 ∷ 76 ∷ 78 ∷ 1 ∷ kind ∷ to_be_bytes w32 len

-- the spelling of a frame
unfoldable pub frame : ℕ → List ℕ → List ℕ
frame kind body = head kind (length body) ++ body
