-- A first write, and then the writes of the rest.
use Rattle.std.proofs.Common.{◌≡◌, ℕ, ◌+◌, ◌≤◌, ◌<◌, List, length, take, drop, Option, true, false, subst, arith, take-append-drop, length-drop}
use Rattle.std.proofs.Math.Seq.{take-add}
use Rattle.std.proofs.KnownBytes.{Appends-trans}
use Rattle.std.specs.Io.KnownBytes.{Appends}
use Rattle.swarm_io.specs.Counts.{Rose}
use Rattle.swarm_io.specs.Moved.{AppendsPrefix}
use Rattle.avalanche_cli.specs.Delivery.{IsDelivered, IsRestDelivered}
use Rattle.avalanche_cli.specs.declared.delivery.Delivery.{Delivery}
use Rattle.avalanche_cli.specs.declared.delivery.Delivery.TheVariants.{Whole, Fault, Memory}

-- a count that rose later rose from before
pub rose_from : (before between now : ℕ) → before ≤ between → Rose between now → Rose before now
rose_from before between now low rose = omega arith

-- the first bytes, and then a prefix of the rest
prefix_on : (a b c : Option (List ℕ)) (file : List ℕ) (count n : ℕ) → Appends a b (take count file) → Appends b c (take n (drop count file)) → Appends a c (take (count + n) file)
prefix_on a b c file count n first more = rw (take-add count n file) (Appends-trans a b c (take count file) (take n (drop count file)) first more)

pub delivered_on : (a b c : Option (List ℕ)) (Unwritten Unheld Unwritten' Unheld' : Type 0) (file rest : List ℕ) (count : ℕ) (ending : Delivery) → 0 < count → count ≤ length file → rest ≡ drop count file → Appends a b (take count file) → IsRestDelivered rest b c Unwritten Unheld ending → (Unwritten → Unwritten') → (Unheld → Unheld') → IsDelivered file a c Unwritten' Unheld' ending
delivered_on a b c Unwritten Unheld Unwritten' Unheld' file rest count Whole some within is first delivered fault want =
    subst (λ (l : List ℕ). Appends a c l) (take-append-drop count file) (Appends-trans a b c (take count file) (drop count file) first (subst (λ (l : List ℕ). Appends b c l) is delivered))
delivered_on a b c Unwritten Unheld Unwritten' Unheld' file rest count Fault some within is first delivered fault want =
    let more = subst (λ (l : List ℕ). AppendsPrefix b c l) is delivered.0 in
    let long = length-drop count file in
    let low : more.0 ≤ length (drop count file) = more.1 in
    ((count + more.0, omega arith, prefix_on a b c file count more.0 first more.2), fault delivered.1)
delivered_on a b c Unwritten Unheld Unwritten' Unheld' file rest count (Memory false) some within is first delivered fault want = absurd delivered
delivered_on a b c Unwritten Unheld Unwritten' Unheld' file rest count (Memory true) some within is first delivered fault want =
    let more = subst (λ (l : List ℕ). AppendsPrefix b c l) is delivered.0 in
    let long = length-drop count file in
    let low : more.0 ≤ length (drop count file) = more.1 in
    ((count + more.0, (omega arith, (omega arith, prefix_on a b c file count more.0 first more.2))), want delivered.1)
