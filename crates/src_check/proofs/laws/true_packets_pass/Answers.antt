use Rattle.std.proofs.Common.{sym, subst}
use Rattle.std.specs.List.{All}
use Rattle.linear_spec.specs.Symbols.{IsVector}
use Rattle.linear_spec.specs.Packet.{IsTrueTo}
use Rattle.src_check.specs.Tickets.{generation_blocks_of}
use Rattle.src_check.proofs.TrueLaws.{have_sums, is_testable}
use Rattle.src_check.proofs.laws.true_packets_pass.Goals as goal

pub returns-clause-sums : goal.returns-clause-sums
returns-clause-sums c = have_sums

pub returns-clause-pass : goal.returns-clause-pass
returns-clause-pass c d file ticket equations packet shape is of_file of_ticket are fits below true =
    let g = packet.generation in
    let blocks = generation_blocks_of d file g in
    c.checks.ensures.truth equations blocks packet (is_testable d ticket equations packet of_ticket are fits below)
    (subst (λ n. All (IsVector n) blocks) (sym of_ticket.s)
    (c.blocks_by_generation.ensures.vectors d file g shape is below))
    (have_sums d file ticket equations g of_file of_ticket below)
    (subst (λ n. IsTrueTo n blocks packet) (sym of_ticket.s) true)
