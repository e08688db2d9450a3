-- What passes have seen and won.
use Rattle.std.proofs.Common.{◌≡◌, ℕ, ◌+◌, ◌≤◌, List, [], ◌∷◌, length, map, get_or, Some, refl, arith}
use Rattle.std.specs.List.{sum_by}
use Rattle.std.proofs.lemmas.Bool.{eq-eqb}
use Rattle.std.proofs.lemmas.List.Sums.{sum_by-cons}
use Rattle.linear_spec.specs.declared.equations.Equations.{Equations}
use Rattle.linear_spec.specs.declared.record.Record.{Record}
use Rattle.linear_spec.specs.declared.reply.Reply.TheVariants.{FailedCheck, Innovative, NotInnovative, Conflicting}
use Rattle.basis_core.specs.Calls.{AreInOrderFrom, KeptCall, KeptDraw, KeptOffer, call_of, count_of, recorded_by, seen_after}
use Rattle.basis_core.specs.Entries.{count_of_answer}
use Rattle.basis_core.specs.Legal.{HaveSeenAtMost, IsLegalHistory}
use Rattle.basis_core.specs.Merge.{only}
use Rattle.benchmarks.specs.Exchanges.{wins_in}

-- the sum over a list of one
pub one_sum : {X : Type 0} (f : X → ℕ) (items : List X) (other : X) → length items ≡ 1 → sum_by f items ≡ f (get_or items 0 other)
one_sum f [] other one = absurd (omega arith)
one_sum f (x ∷ []) other one = omega arith
one_sum f (x ∷ y ∷ items) other one = absurd (omega arith)

-- a call's count, by its answer alone
same_count : (call : KeptCall) → count_of (recorded_by call) ≡ count_of_answer (call_of call).answer
same_count (KeptOffer tag packet (FailedCheck check front)) = refl
same_count (KeptOffer tag packet (Innovative at)) = refl
same_count (KeptOffer tag packet (NotInnovative front)) = refl
same_count (KeptOffer tag packet (Conflicting front)) = refl
same_count (KeptDraw tag drawn) = refl

-- calls in order that record raise what was seen by one each
wins_from : (calls : List KeptCall) (seen most : ℕ) → AreInOrderFrom calls seen → HaveSeenAtMost most calls → seen ≤ most
    → seen + wins_in (map call_of calls) ≤ most
wins_from [] seen most order at_most within = omega arith
wins_from (call ∷ calls) seen most order at_most within =
    let rest = wins_from calls (seen_after call) most order.1 at_most.1 at_most.0 in
    let first = sum_by-cons (λ made. count_of_answer made.answer) (call_of call) (map call_of calls) in
    let same = same_count call in
    let behind = order.0 in
    omega arith

-- a caller's calls recorded no more than the caller has seen
pub wins_within : (equations : Equations) (number : ℕ) (calls : List KeptCall) (records : List Record)
    → IsLegalHistory equations (only number calls) records → HaveSeenAtMost (length records) calls
    → wins_in (map call_of calls) ≤ length records
wins_within equations number calls records legal seen =
    let own : only number calls number ≡ Some calls = let e = eq-eqb number number refl in rw e refl in
    let all = wins_from calls 0 (length records) (legal.in_order number calls own) seen (omega arith) in
    omega arith
