use Rattle.receive_pass.specs.Worked.{IsOfFirst}
use Rattle.receive_pass.proofs.Made.{popped_is}
use Rattle.receive_pass.proofs.tests.answers_by_check_first.Goals as goal

pub make_worker-requires-clause-pass : goal.make_worker-requires-clause-pass
make_worker-requires-clause-pass g c =
    popped_is (IsOfFirst c.in_ok-bases.bases.items) c.in_ok-bases.passes.items c.pop.new.self.items c.pop.result c.in_ok-pass.pass c.pop.ensures.items
    c.in_ok-pass.ensures.ok_part c.in_ok-bases.ensures.passes
