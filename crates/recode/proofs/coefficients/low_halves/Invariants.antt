use Rattle.std.proofs.Common.{◌≡◌, map, take}
use Rattle.recode.specs.Draws.{symbol_of_word}
use Rattle.recode.proofs.coefficients.low_halves.Given as goal

-- the halves so far
abbrev pub invariant-loop-i : goal.invariant-loop-i
invariant-loop-i l = take l.i l.out ≡ map symbol_of_word (take l.i l.words)
