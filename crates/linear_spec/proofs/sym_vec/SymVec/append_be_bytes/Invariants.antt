use Rattle.std.proofs.Common.{◌≡◌, ◌+◌, ◌*◌, ◌++◌, ◌≤◌, length, take}
use Rattle.linear_spec.specs.Symbols.{be_bytes_of}
use Rattle.linear_spec.proofs.sym_vec.SymVec.append_be_bytes.Given as goal

-- the bytes of the symbols so far were appended, and there is room for the rest
abbrev pub invariant-loop-symbol : goal.invariant-loop-symbol
invariant-loop-symbol l = record {
  appended : l.out.items ≡ l.fn.out.items ++ be_bytes_of (take l.symbol-index l.symbol-items);
  kept : l.fn.out.spare ≤ l.out.spare + 2 * l.symbol-index;
  room : 2 * length l.symbol-items ≤ l.out.spare + 2 * l.symbol-index;
}
