-- A trace of nothing.
use Rattle.std.specs.Prelude.{◌≡◌, []}
use Rattle.avalanche_cli.specs.declared.trace.Trace.{Trace}

-- nothing is kept
pub record IsEmptyTrace (trace : Trace) : Type 0 where
  pub bases : trace.bases.items ≡ []
  pub sends : trace.sends.items ≡ []
