use Rattle.std.proofs.Common.{List, ℕ, subst, ◌∙◌}
use Rattle.swarm_io.specs.Moved.{AppendsPrefix}
use Rattle.avalanche_cli.proofs.LineLemmas.{prefix_written}
use Rattle.avalanche_cli.proofs.line.write_line.Goals as goal

pub returns-clause-prefix : goal.returns-clause-prefix
returns-clause-prefix g c =
    subst (λ (l : List ℕ). AppendsPrefix (g.E.Sink.contents c.args.errors.now) (g.E.Sink.contents c.write_all_of-passed_over.new.output) l)
    (c.as_slice.ensures.value ∙ c.line_of-line.ensures)
    (prefix_written _ _ c.as_slice.result.now c.write_all_of-passed_over.result c.write_all_of-passed_over.ensures.ok c.write_all_of-passed_over.ensures.err)
