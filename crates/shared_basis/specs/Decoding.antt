-- The memory that a closing needs, and the words that it decodes.
use Rattle.std.specs.Prelude.{◌≡◌, ℕ, ◌+◌, ◌*◌, ◌<◌, ◌≤◌, List, [], length, slice_index}
use Rattle.std.specs.List.{All}
use Rattle.linear_spec.specs.declared.packet.Packet.{Packet}
use Rattle.table_rows.specs.declared.view.Parameters.{Parameters}
use Rattle.table_rows.specs.Layout.{basis_length, length_of, region_length}
use Rattle.shared_basis.specs.declared.closing.Room.{Room}
use Rattle.shared_basis.specs.declared.params.Params.{Params}

-- a packet of the generation with k coefficients and s symbols, whatever they are
pub record IsBlankFor (generation k s : ℕ) (packet : Packet) : Type 0 where
  pub generation_is : packet.generation ≡ generation
  pub coeffs : length packet.coeffs ≡ k
  pub payload : length packet.payload ≡ s

-- at least so many such packets
pub record AreBlanksFor (params : Params) (count : ℕ) (packets : List Packet) : Type 0 where
  pub enough : count ≤ length packets
  pub blank : All (IsBlankFor params.generation params.k params.s) packets

-- empty lists with room for all words, for k records and rows and for all callers, and two packets for each record
pub record IsRoomFor (p : Parameters) (room : Room) : Type 0 where
  pub words : (room.words.items ≡ []) × (basis_length p.k p.s p.passes ≤ room.words.spare)
  pub count : length room.packets.items ≡ 2 * p.k
  pub blank : All (IsBlankFor p.generation p.k p.s) room.packets.items
  pub records : (room.records.items ≡ []) × (p.k ≤ room.records.spare)
  pub rows : (room.rows.items ≡ []) × (p.k ≤ room.rows.spare)
  pub callers : (room.callers.items ≡ []) × (p.passes ≤ room.callers.spare)

-- each region that the directory names is one of the words
pub record HaveRegions (k s : ℕ) (words : List ℕ) : Type 0 where
  pub directory : k ≤ length words
  pub regions : (n : ℕ) → n < length_of k words
      → (1 ≤ slice_index words n) × (k + slice_index words n * region_length k s ≤ length words)
