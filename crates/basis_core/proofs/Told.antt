-- What a legal history tells of its records and of each given caller.
use Rattle.std.proofs.Common.{◌≡◌, ℕ, ◌<◌, ◌≤◌, ◌^◌, List, [], map, length, Some, sym, ap, ◌∙◌, subst, arith}
use Rattle.std.specs.List.{All, AllByRecursion, filter}
use Rattle.std.proofs.lemmas.List.{length-map}
use Rattle.std.proofs.lemmas.List.Elements.{All-from_recursion, recursion_from_All}
use Rattle.linear_spec.specs.declared.equations.Equations.{Equations}
use Rattle.linear_spec.specs.declared.packet.Packet.{Packet}
use Rattle.linear_spec.specs.declared.record.Record.{Record}
use Rattle.linear_spec.specs.Packet.{Fits}
use Rattle.linear_spec.specs.RowLaws.{RowLaws}
use Rattle.linear_spec.specs.SequentialBasis.{packets_of}
use Rattle.basis_core.specs.Calls.{KeptCall, point_of, AreInOrder}
use Rattle.basis_core.specs.Run.{AreInnovative, is_by}
use Rattle.basis_core.specs.Merge.{Given, caller_numbers, made_by, calls_by, all_calls, merge_of}
use Rattle.basis_core.specs.Legal.{IsLegalHistory, IsAnsweredOver}
use Rattle.basis_core.proofs.Lists.{each-weaker}
use Rattle.basis_core.proofs.Merging.{own_of_merge}
use Rattle.basis_core.proofs.Runs.{IsRight}
use Rattle.basis_core.proofs.Local.{local_from_legal, calls_given}
use Rattle.basis_core.proofs.Law.{number_is_below, innovative_at}

caller_below : (number : ℕ) → number < caller_numbers → number < 2 ^ 32
unfolding caller_numbers
caller_below number below = below

pub callers_are_below : (records : List Record) → AllByRecursion (λ r. r.caller < caller_numbers) records → All (λ r. r.caller < 2 ^ 32) records
callers_are_below records below =
    All-from_recursion (λ r. r.caller < 2 ^ 32) records (each-weaker (λ r. r.caller < caller_numbers) (λ r. r.caller < 2 ^ 32) (λ r h. caller_below r.caller h) records below)

pub callers_stay_below : (records : List Record) → All (λ r. r.caller < 2 ^ 32) records → AllByRecursion (λ r. r.caller < caller_numbers) records
callers_stay_below records below =
    each-weaker (λ r. r.caller < 2 ^ 32) (λ r. r.caller < caller_numbers) (λ r h. number_is_below r.caller h) records (recursion_from_All (λ r. r.caller < 2 ^ 32) records below)

pub answered_over : (equations : Equations) (given : Given) (records : List Record) (number : ℕ) (calls : List KeptCall) → IsLegalHistory equations given records
    → given number ≡ Some calls → All (IsAnsweredOver equations records) calls
answered_over equations given records number calls legal some =
    All-from_recursion (IsAnsweredOver equations records) calls
    (each-weaker (IsRight equations (packets_of records)) (IsAnsweredOver equations records)
    (λ c right. record { within = subst (λ n. point_of c ≤ n) (length-map records (λ r. r.packet)) right.within; answered = right.answered }) calls
    ((local_from_legal equations given records legal).fits number calls some).right)

pub once : (equations : Equations) (given : Given) (records : List Record) (number : ℕ) (calls : List KeptCall) → IsLegalHistory equations given records
    → given number ≡ Some calls → filter (is_by number) (merge_of (all_calls given records)) ≡ map (made_by number) calls
once equations given records number calls legal some =
    let h = calls_given given records number calls some in
    own_of_merge (calls_by given records) caller_numbers number (legal.numbers number calls some) (subst AreInOrder (sym h) (legal.in_order number calls some))
    ∙ ap (map (made_by number)) h

-- packets that are each fresh at those before it are at most as many as a packet has coefficients
pub at_most : (equations : Equations) (records : List Record) → All (Fits equations.k equations.s) (packets_of records) → AreInnovative equations (packets_of records)
    → RowLaws → length records ≤ equations.k
at_most equations records fit innovative laws =
    let packets = packets_of records in
    let rows = laws.some equations.k equations.s packets fit (λ at packet below. innovative_at equations packets [] innovative at packet below) in
    let bound = laws.at_most equations.k equations.s packets rows.0 rows.1 in
    let count = rows.1.count in
    let long = length-map records (λ r. r.packet) in
    omega arith
