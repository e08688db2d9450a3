use Rattle.std.proofs.Common.{ℕ, ◌+◌, ◌≤◌, length, arith, length-take}
use Rattle.swarm_io.specs.Moved.{Takes}
use Rattle.swarm_io.proofs.MovedLemmas.{Takes-read, Takes-exactly, TakesAtMost-taken}
use Rattle.swarm_io.proofs.reading.read_all.Given.{Over}
use Rattle.swarm_io.proofs.reading.read_all.Goals as goal
use Rattle.swarm_io.proofs.reading.read_all.Goals.{After-checked_sub}

-- what was taken, once a read has given some bytes
taken : (g : Over) (c : After-checked_sub g)
    → Takes (g.I.Source.remaining c.args.input.now) (g.I.Source.remaining c.read.new.self) (length c.loop-bytes.bytes.items + c.in_ok-count.count)
taken g c =
    let read = c.in_ok-count.ensures in
    Takes-read _ _ _ c.loop-bytes.bytes.items c.read.new.buf _ c.loop-bytes.invariant.taken read.bytes.0 (omega (arith, length-take {A = ℕ}))

-- a read gives at most one byte more than there is room for
one_more : (g : Over) (c : After-checked_sub g) → c.in_ok-count.count ≤ c.loop-bytes.room + 1
one_more g c = let read = c.in_ok-count.ensures in omega (arith, length-take {A = ℕ})

pub returns-in_err-room-clause-too_large : goal.returns-in_err-room-clause-too_large
returns-in_err-room-clause-too_large g c =
    let here = (goal.at.returns-in_err-room-clause-too_large g c).After-checked_sub in
    let most = one_more g here in
    λ _. Takes-exactly _ _ _ _ (taken g here) (grind arith)

pub returns-in_err-room-clause-taken : goal.returns-in_err-room-clause-taken
returns-in_err-room-clause-taken g c =
    let here = (goal.at.returns-in_err-room-clause-taken g c).After-checked_sub in
    TakesAtMost-taken _ _ _ _ (taken g here) (omega (arith, one_more g here))

pub returns-in_err-extend_from_slice-clause-otherwise :
    goal.returns-in_err-extend_from_slice-clause-otherwise
returns-in_err-extend_from_slice-clause-otherwise g c =
    let here = (goal.at.returns-in_err-extend_from_slice-clause-otherwise g c).After-checked_sub in
    λ _. TakesAtMost-taken _ _ _ _ (taken g here) (grind arith)

pub returns-in_err-extend_from_slice-clause-taken :
    goal.returns-in_err-extend_from_slice-clause-taken
returns-in_err-extend_from_slice-clause-taken g c =
    let here = (goal.at.returns-in_err-extend_from_slice-clause-taken g c).After-checked_sub in
    TakesAtMost-taken _ _ _ _ (taken g here) (omega (arith, one_more g here))
