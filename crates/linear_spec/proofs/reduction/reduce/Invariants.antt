use Rattle.std.proofs.Common.{◌≡◌, length, drop}
use Rattle.linear_spec.specs.Packet.{vector_of}
use Rattle.linear_spec.specs.Rows.{remainder_of}
use Rattle.linear_spec.proofs.reduction.reduce.Given as goal

-- the rows that are left reduce what there is to what all rows make of the vector
abbrev pub invariant-loop-row : goal.invariant-loop-row
invariant-loop-row g l = record {
  vector : remainder_of (drop l.row-index l.rows) (vector_of l.packet) ≡ remainder_of l.rows (vector_of l.fn.packet);
  coeffs : length l.packet.coeffs ≡ length l.fn.packet.coeffs;
  payload : length l.packet.payload ≡ length l.fn.packet.payload;
  generation : l.packet.generation ≡ l.fn.packet.generation;
}
