use Rattle.std.proofs.Common.{◌≡◌, ◌++◌, ap, subst, ◌∙◌}
use Rattle.std.specs.Prelude.{OnOk}
use Rattle.generation.specs.declared.ticket.Ticket.{Ticket}
use Rattle.src_check.specs.Keys.{key_of_ticket}
use Rattle.packet_wire.specs.Stream.{ticket_frame}
use Rattle.avalanche_cli.proofs.SeedLemmas.{is_ticket_of_seed}
use Rattle.avalanche_cli.proofs.seed.append_ticket.Goals as goal

pub returns : goal.returns
returns c =
    let key = c.in_ok-ticket.ensures.key ∙ c.ticket_key-key.ensures ∙ ap (key_of_ticket c.args.words.now.key) c.from.ensures in
    let is = is_ticket_of_seed c.args.words.now c.args.file.now c.args.shape.now c.in_ok-ticket.ticket c.requires.shape key c.in_ok-ticket.ensures.checks c.in_ok-ticket.ensures.sums in
    subst (λ (ticket : Ticket). OnOk c.write_ticket.result (c.write_ticket.new.out.items ≡ c.args.stream.now.items ++ ticket_frame ticket)) is c.write_ticket.ensures.ok
