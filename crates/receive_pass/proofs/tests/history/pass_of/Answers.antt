use Rattle.receive_pass.proofs.Made.{only_pass, popped_last}
use Rattle.receive_pass.proofs.tests.history.pass_of.Goals as goal

pub returns : goal.returns
returns c =
    only_pass c.args.bases.now.items c.args.passes.items c.pop.new.self.items c.in_ok-pass.pass c.requires.one c.requires.passes
    (popped_last c.args.passes.items c.pop.new.self.items c.pop.result c.in_ok-pass.pass c.pop.ensures.items c.in_ok-pass.ensures.ok_part)
