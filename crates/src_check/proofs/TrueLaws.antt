-- Packets that are true to a file pass the equations of its ticket.
use Rattle.std.proofs.Common.{◌≡◌, ℕ, ◌+◌, ◌*◌, ◌<◌, ◌≤◌, List, ◌++◌, length, take, drop, map, ap, sym, subst, ◌∙◌, drop-drop, arith}
use Rattle.std.proofs.lemmas.List.{take-append-drop}
use Rattle.std.proofs.Math.Nat.{mul-le-mul_left}
use Rattle.gf16.specs.Sums.{dot_of}
use Rattle.linear_spec.specs.declared.equations.Equations.{Equations}
use Rattle.linear_spec.specs.declared.packet.Packet.{Packet}
use Rattle.linear_spec.specs.Packet.{Fits}
use Rattle.linear_spec.specs.Passing.{AreEquations, HaveSumsOf, IsTestable}
use Rattle.generation.specs.declared.ticket.Ticket.{Ticket}
use Rattle.generation.specs.Shape.{Dimensions, generations_of, symbols_per_block}
use Rattle.src_check.specs.Tickets.{AreEquationsOf, IsTicketOf, check_sums_of, file_sums_of, generation_blocks_of, generation_sums_of}
use Rattle.src_check.specs.Weights.{weights_of_checks}
use Rattle.src_check.proofs.Places.{piece_at, take_within}
use Rattle.src_check.proofs.Sums.{length_check_sums, length_generation_sums, weights_at}

-- the sums of a generation, among those of the file
generation_at : (d : Dimensions) (file key : List ℕ) (checks g : ℕ) → g < generations_of d
    → take (checks * d.k) (drop (g * (checks * d.k)) (file_sums_of d file key checks))
    ≡ generation_sums_of d file key checks g
unfolding file_sums_of
generation_at d file key checks g below =
    piece_at (generation_sums_of d file key checks) (checks * d.k) (generations_of d) g
    (length_generation_sums d file key checks) below

-- the sums of a check, among those of its generation
check_at : (d : Dimensions) (file key : List ℕ) (checks g check : ℕ) → check < checks
    → take d.k (drop (check * d.k) (generation_sums_of d file key checks g)) ≡ check_sums_of d file key g check
unfolding generation_sums_of
check_at d file key checks g check below =
    piece_at (check_sums_of d file key g) d.k checks check (length_check_sums d file key g) below

-- a part of a part
part_of_part : (size at whole : ℕ) (xs front : List ℕ) → take whole xs ≡ front → at + size ≤ length front
    → take size (drop at xs) ≡ take size (drop at front)
part_of_part size at whole xs front is within =
    ap (λ ys. take size (drop at ys)) (sym (take-append-drop whole xs) ∙ ap (λ ys. ys ++ drop whole xs) is)
    ∙ take_within size at front (drop whole xs) within

-- the sums of a check and a generation, among those of the file
sums_at : (d : Dimensions) (file key : List ℕ) (checks g check : ℕ) → g < generations_of d → check < checks
    → take d.k (drop ((g * checks + check) * d.k) (file_sums_of d file key checks)) ≡ check_sums_of d file key g check
sums_at d file key checks g check below within =
    let sums = file_sums_of d file key checks in
    let before = g * (checks * d.k) in
    let place : (g * checks + check) * d.k ≡ before + check * d.k = omega arith in
    ap (λ n. take d.k (drop n sums)) place
    ∙ ap (take d.k) (sym (drop-drop (check * d.k) before sums))
    ∙ part_of_part d.k (check * d.k) (checks * d.k) (drop before sums) (generation_sums_of d file key checks g)
    (generation_at d file key checks g below) ends_within
    ∙ check_at d file key checks g check within
  where
    ends_within : check * d.k + d.k ≤ length (generation_sums_of d file key checks g)
    ends_within =
        let next : check + 1 ≤ checks = omega arith in
        let more : d.k * (check + 1) ≤ d.k * checks = mul-le-mul_left d.k next in
        omega (arith, length_generation_sums d file key checks g)

-- the equations of a file's ticket have the weighted sums of its blocks
pub have_sums : (d : Dimensions) (file : List ℕ) (ticket : Ticket) (equations : Equations) (g : ℕ)
    → IsTicketOf d file ticket → AreEquationsOf d ticket equations → g < generations_of d
    → HaveSumsOf equations g (generation_blocks_of d file g)
have_sums d file ticket equations g of_file of_ticket below = λ check within.
    let s = symbols_per_block d in
    let k_is = of_ticket.k in
    let checks_are = of_ticket.checks in
    let s_is = of_ticket.s in
    let sums_are : equations.sums ≡ file_sums_of d file ticket.key ticket.checks = of_ticket.sums ∙ of_file in
    let weights_are = of_ticket.weights in
    let inside : check < ticket.checks = omega arith in
    let place : take equations.k (drop ((g * equations.checks + check) * equations.k) equations.sums)
    ≡ take d.k (drop ((g * ticket.checks + check) * d.k) (file_sums_of d file ticket.key ticket.checks)) = cc in
    let own : take equations.s (drop (check * equations.s) equations.weights)
    ≡ take s (drop (check * s) (weights_of_checks ticket.key s ticket.checks)) = cc in
    place ∙ sums_at d file ticket.key ticket.checks g check below inside
    ∙ ap (λ ws. map (dot_of ws) (generation_blocks_of d file g))
    (sym (own ∙ weights_at ticket.key s ticket.checks check inside))

-- the equations of a ticket test the packets of the file's shape
pub is_testable : (d : Dimensions) (ticket : Ticket) (equations : Equations) (packet : Packet)
    → AreEquationsOf d ticket equations → AreEquations equations → Fits d.k (symbols_per_block d) packet
    → packet.generation < generations_of d → IsTestable equations packet
is_testable d ticket equations packet of_ticket are fits below = record {
  are_equations = are;
  fits =
      subst (λ k. Fits k equations.s packet) (sym of_ticket.k) (subst (λ s. Fits d.k s packet) (sym of_ticket.s) fits);
  generation_below = omega (arith, of_ticket.generations);
}
