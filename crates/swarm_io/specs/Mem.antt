-- What a contract sees of a `MemSource` and of a `MemSink`: its bytes, and its calls, which can be told to fail.
-- piece: the most bytes of a call. calls: how many calls there were. fails: the numbers of the calls that fail, where the
-- first call has the number 0. faults: how many failed. wants: how often memory was refused. A count stands still at
-- 2^64 - 1.
use Rattle.std.specs.Prelude.{ℕ, List}

-- a source, with the bytes that are left
pub record MemSourceValue : Type 0 where
  pub left : List ℕ
  pub piece : ℕ
  pub fails : List ℕ
  pub calls : ℕ
  pub faults : ℕ

-- a sink, with the bytes that it holds
pub record MemSinkValue : Type 0 where
  pub held : List ℕ
  pub piece : ℕ
  pub fails : List ℕ
  pub calls : ℕ
  pub faults : ℕ
  pub wants : ℕ
