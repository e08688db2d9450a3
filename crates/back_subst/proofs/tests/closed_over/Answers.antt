use Rattle.std.proofs.Common.{ℕ, subst}
use Rattle.std.specs.List.{All}
use Rattle.linear_spec.specs.Packet.{Fits}
use Rattle.linear_spec.specs.SequentialBasis.{packets_of}
use Rattle.back_subst.proofs.tests.closed_over.Goals as goal

-- the basis was made for these lengths
pub returns-clause-fit : goal.returns-clause-fit
returns-clause-fit c =
    let made = c.in_ok-basis.ensures.parameters in
    let packets = packets_of c.in-Ok.closed.records.items in
    subst (λ (k : ℕ). All (Fits k c.args.s) packets) made.same_k
    (subst (λ (s : ℕ). All (Fits c.in_ok-basis.field-0.basis.parameters.k s) packets) made.same_s c.in-Ok.ensures.closed.fit)
