-- What a contract sees of a `SteadySource` and of a `SteadySink`: its bytes, and how many of them a call moves.
use Rattle.std.specs.Prelude.{ℕ, List}

-- a source
pub record SteadySourceValue : Type 0 where
  -- the bytes that are left
  pub left : List ℕ
  -- the most bytes of a call
  pub piece : ℕ

-- a sink
pub record SteadySinkValue : Type 0 where
  -- the bytes that it holds
  pub bytes : List ℕ
  -- the most bytes of a call
  pub piece : ℕ
  -- how often memory was refused
  pub wants : ℕ
