-- What a `SymVec` ends as, where a `&mut` to its symbols is returned.
use Rattle.std.specs.Prelude.{ℕ, List, length}
use Rattle.std.specs.List.{refill}
use Rattle.std.specs.Borrow.{Lends, Fml, MutBor, Array, u16}
use Rattle.linear_spec.specs.contracts.sym_vec.SymVec.{the_row}

-- once the borrow ends, the symbols are those that it shows last, as many as before
abbrev pub lends_symbols : MutBor (List ℕ) → MutBor (List ℕ) → Fml
lends_symbols v r = Lends the_row (Array u16 0) v r (λ symbols. refill (length v.now) v.now symbols)
