use Rattle.std.proofs.Common.{ℕ, ◌<◌}
use Rattle.linear_spec.specs.Passing.{Meets}
use Rattle.src_check.proofs.passing.first_failed.Given as goal

-- the checks so far are met
abbrev pub invariant-loop-check : goal.invariant-loop-check
invariant-loop-check l = (earlier : ℕ) → earlier < l.check → Meets l.equations l.packet earlier
