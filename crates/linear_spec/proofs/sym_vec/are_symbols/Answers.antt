use Rattle.std.proofs.Common.{rules}
use Rattle.std.proofs.lemmas.List.Elements.{All-from_get_or}
use Rattle.gf16.specs.Field.{IsSymbol}
use Rattle.linear_spec.proofs.sym_vec.are_symbols.Goals as goal

pub returns : goal.returns
returns c = All-from_get_or IsSymbol c.args.symbols.now 0 (λ i below. search (rules, c.type_inv.symbols i))
