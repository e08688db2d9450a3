use Rattle.std.proofs.Common.{◌≡◌, length}
use Rattle.std.specs.List.{All}
use Rattle.shared_basis.specs.Decoding.{IsBlankFor}
use Rattle.shared_basis.proofs.closing.blank_packets.Given as goal

abbrev pub invariant-loop-at : goal.invariant-loop-at
invariant-loop-at l = record {
  count : length l.packets.items ≡ l._at;
  blank : All (IsBlankFor l.params.generation l.params.k l.params.s) l.packets.items;
}
