use Rattle.std.proofs.Common.{codes, decimal, List, ℕ, ◌++◌, ◌∙◌, ap}
use Rattle.avalanche_cli.specs.Lines.{name_of_kind}
use Rattle.avalanche_cli.proofs.LineLemmas.{then_four}
use Rattle.avalanche_cli.proofs.line.append_fault.Goals as goal

pub returns-clause-items : goal.returns-clause-items
returns-clause-items c = then_four _ (codes "bad stream: ") (name_of_kind c.args.fault.now.kind) (codes " at ") (decimal c.args.fault.now.offset) _ _ _ _ c.append.ensures (c.append-2.ensures ∙ ap (λ (l : List ℕ). c.append.new.line.items ++ l) c.kind_name.ensures.name) c.append-3.ensures c.append_number.ensures.items
