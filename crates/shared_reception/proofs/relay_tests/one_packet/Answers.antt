use Rattle.std.proofs.Common.{[], ◌∷◌, ◌++◌, ap, ◌∙◌}
use Rattle.std.proofs.lemmas.List.Elements.{All-cons, All-nil, All-same}
use Rattle.linear_spec.specs.Passing.{IsTestable}
use Rattle.shared_reception.proofs.relay_tests.one_packet.Goals as goal

pub returns-clause-testable : goal.returns-clause-testable
returns-clause-testable c =
    All-same (IsTestable c.args.equations.now) c.push.new.self.items (c.in_ok-packet.packet ∷ [])
    (c.in_ok-push.ensures.ok ∙ ap (λ l. l ++ c.in_ok-packet.packet ∷ []) c.new-packets.ensures)
    (All-cons (IsTestable c.args.equations.now) c.in_ok-packet.packet [] c.in_ok-packet.ensures (All-nil (IsTestable c.args.equations.now)))
