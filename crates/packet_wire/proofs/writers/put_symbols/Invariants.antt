use Rattle.std.proofs.Common.{◌≡◌, ◌+◌, ◌*◌, ◌++◌, ◌≤◌, length, take}
use Rattle.linear_spec.specs.Symbols.{be_bytes_of}
use Rattle.packet_wire.proofs.writers.put_symbols.Given as goal

-- the bytes of the symbols so far were appended, and there is room for the rest
abbrev pub invariant-loop-symbol : goal.invariant-loop-symbol
invariant-loop-symbol l = record {
  appended : l.out.items ≡ l.initial.out.items ++ be_bytes_of (take l.symbol-index l.symbols);
  room : 2 * length l.symbols ≤ l.out.spare + 2 * l.symbol-index;
  spare : l.initial.out.spare ≤ l.out.spare + 2 * l.symbol-index;
}
