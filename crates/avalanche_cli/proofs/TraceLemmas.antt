-- The traces of closed bases.
use Rattle.std.proofs.Common.{◌≡◌, ℕ, zero, suc, ◌+◌, ◌<◌, List, [], ◌∷◌, ◌++◌, length, reverse, get_or, Some, None, refl, sym, ap, ◌∙◌, arith}
use Rattle.std.specs.Prelude.{Option}
use Rattle.std.proofs.lemmas.List.{append_assoc, reverse-append}
use Rattle.std.proofs.lemmas.Bool.{cond_below}
use Rattle.linear_spec.specs.declared.packet.Packet.{Packet}
use Rattle.linear_spec.specs.SequentialBasis.{packets_of}
use Rattle.basis_core.specs.declared.trace.BasisTrace.{BasisTrace}
use Rattle.basis_core.specs.Calls.{KeptCall}
use Rattle.shared_basis.specs.declared.params.Closed.{Closed}
use Rattle.shared_reception.specs.declared.sends.Sending.{Sending}
use Rattle.shared_reception.specs.Dealing.{given_below}
use Rattle.avalanche_cli.specs.Files.{recorded_packets}
use Rattle.avalanche_cli.specs.Reception.{packets_in, trace_of, traces_of}
use Rattle.avalanche_cli.specs.Trace.{caller_count}

-- what stands past the end of a list
abbrev pub no_basis : Closed
no_basis = record { records = record { items = []; spare = 0 }; rows = record { items = []; spare = 0 }; callers = record { items = []; spare = 0 } }

abbrev pub no_trace : BasisTrace
no_trace = record { peer = 0; generation = 0; records = record { items = []; spare = 0 }; callers = record { items = []; spare = 0 } }

pub given_here : (count number : ℕ) (kept : ℕ → List KeptCall) → number < count → given_below count kept number ≡ Some (kept number)
given_here count number kept below = sym (cond_below number count (Some (kept number)) None below)

-- a receiver is a caller
pub is_caller : (receivers : ℕ) (sending : Option Sending) (number : ℕ) → number < receivers → number < caller_count receivers sending
is_caller receivers None number low = low
is_caller receivers (Some sending) number low = omega arith

-- ---- the traces of bases

pub length-traces : (generation : ℕ) (bases : List Closed) → length (traces_of generation bases) ≡ length bases
length-traces generation [] = refl
length-traces generation (basis ∷ bases) = ap (λ n. suc n) (length-traces (generation + 1) bases)

pub trace_at : (generation : ℕ) (bases : List Closed) (at : ℕ) (other : BasisTrace) (closed : Closed) → at < length bases → get_or (traces_of generation bases) at other ≡ trace_of (generation + at) (get_or bases at closed)
trace_at generation [] at other closed below = absurd (omega arith)
trace_at generation (basis ∷ bases) zero other closed below = let same : generation ≡ generation + 0 = omega arith in ap (λ n. trace_of n basis) same
trace_at generation (basis ∷ bases) (suc at) other closed below =
    let same : generation + 1 + at ≡ generation + suc at = omega arith in
    trace_at (generation + 1) bases at other closed (omega arith) ∙ ap (λ n. trace_of n (get_or bases at closed)) same

pub traces_more : (generation : ℕ) (bases : List Closed) (basis : Closed) → traces_of generation (bases ++ basis ∷ []) ≡ traces_of generation bases ++ trace_of (generation + length bases) basis ∷ []
traces_more generation [] basis = let same : generation ≡ generation + 0 = omega arith in ap (λ n. trace_of n basis ∷ []) same
traces_more generation (first ∷ bases) basis =
    let same : generation + 1 + length bases ≡ generation + suc (length bases) = omega arith in
    ap (λ l. trace_of generation first ∷ l) (traces_more (generation + 1) bases basis ∙ ap (λ n. traces_of (generation + 1) bases ++ trace_of n basis ∷ []) same)

-- their records are the bases' own
pub recorded_of : (generation : ℕ) (bases : List Closed) → recorded_packets (traces_of generation bases) ≡ packets_in bases
recorded_of generation [] = refl
recorded_of generation (basis ∷ bases) = ap (λ (l : List (List Packet)). packets_of basis.records.items ∷ l) (recorded_of (generation + 1) bases)

-- the traces of bases that are taken off their list, the last one first
pub taken_more : (all bases left : List Closed) (basis : Closed) (traces after : List BasisTrace) (trace : BasisTrace) → traces_of 0 all ≡ traces_of 0 bases ++ reverse traces → bases ≡ left ++ basis ∷ [] → trace ≡ trace_of (length left) basis → after ≡ traces ++ trace ∷ [] → traces_of 0 all ≡ traces_of 0 left ++ reverse after
taken_more all bases left basis traces after trace split off trace_is more =
    let counted : 0 + length left ≡ length left = omega arith in
    let last : trace_of (0 + length left) basis ≡ trace = ap (λ n. trace_of n basis) counted ∙ sym trace_is in
    split ∙ ap (λ l. traces_of 0 l ++ reverse traces) off ∙ ap (λ l. l ++ reverse traces) (traces_more 0 left basis)
    ∙ append_assoc (traces_of 0 left) (trace_of (0 + length left) basis ∷ []) (reverse traces)
    ∙ ap (λ t. traces_of 0 left ++ t ∷ reverse traces) last
    ∙ ap (λ l. traces_of 0 left ++ l) (sym (reverse-append traces (trace ∷ [])) ∙ ap reverse (sym more))
