-- What reads and writes move, one after another.
use Rattle.std.proofs.Common.{◌≡◌, ℕ, ◌+◌, ◌-◌, ◌≤◌, List, ◌++◌, length, take, drop, Option, refl, sym, ◌∙◌, arith, take-append-drop, length-append, length-drop, length-take}
use Rattle.std.proofs.lemmas.List.{take_at, drop-drop, length-take-le, take_rest, drop_all}
use Rattle.std.proofs.Math.Seq.{take-add}
use Rattle.std.proofs.KnownBytes.{Consumes-trans, Appends-trans}
use Rattle.std.specs.Io.KnownBytes.{Appends, Consumes}
use Rattle.swarm_io.specs.Moved.{Takes, TakesAtMost}

-- the bytes so far, and then those of one more read
pub Takes-read : (a b c : Option (List ℕ)) (bytes buffer : List ℕ) (count : ℕ)
    → Consumes a b bytes → Consumes b c (take count buffer) → count ≤ length buffer
    → Takes a c (length bytes + count)
Takes-read a b c bytes buffer count before read within =
    let all = bytes ++ take count buffer in
    let counted : length all ≡ length bytes + count =
    omega (arith, length-append bytes (take count buffer), length-take-le count buffer within) in
    (all, Consumes-trans a b c bytes (take count buffer) before read, counted)

pub Takes-exactly : (a b : Option (List ℕ)) (count n : ℕ) → Takes a b count → count ≡ n → Takes a b n
Takes-exactly a b count n taken same = (taken.0, taken.1, omega (arith, taken.2))

pub TakesAtMost-taken : (a b : Option (List ℕ)) (count most : ℕ)
    → Takes a b count → count ≤ most → TakesAtMost a b most
TakesAtMost-taken a b count most taken within = (taken.0, taken.1, omega (arith, taken.2))

-- the bytes so far, and then those of one more write of the rest
pub Appends-rest : (a b c : Option (List ℕ)) (bytes : List ℕ) (done count : ℕ)
    → Appends a b (take done bytes)
    → Appends b c (take count (take (length bytes - done) (drop done bytes)))
    → Appends a c (take (done + count) bytes)
Appends-rest a b c bytes done count before written =
    let rest = rw (take_rest bytes done) at written in
    rw (take-add done count bytes) (Appends-trans a b c _ _ before rest)

-- what was left is the front of a buffer, to which its first bytes were copied, and then the others
pub drop-moved : (bytes front behind : List ℕ) (given count : ℕ)
    → front ≡ take count (take (length bytes - given) (drop given bytes)) → length front ≡ count
    → drop given bytes ≡ take count (front ++ behind) ++ drop (given + count) bytes
drop-moved bytes front behind given count same counted =
    let first : front ≡ take count (drop given bytes) = rw (take_rest bytes given) at same in
    let moved : take count (front ++ behind) ≡ take count (drop given bytes) =
    take_at front behind count counted ∙ first in
    rw (moved, ← drop-drop count given bytes) (sym (take-append-drop count (drop given bytes)))

-- what a loop of writes steps by
pub ruleset writes = (Appends-rest, length-drop, length-take)

-- what a read from memory steps by
pub ruleset moves = (drop-moved, drop_all, length-append, length-drop, length-take)
