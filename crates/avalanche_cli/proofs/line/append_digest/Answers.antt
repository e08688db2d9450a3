use Rattle.std.proofs.Common.{codes}
use Rattle.hex.specs.Hex.{encode_lower}
use Rattle.avalanche_cli.proofs.LineLemmas.{then_two}
use Rattle.avalanche_cli.proofs.line.append_digest.Goals as goal

pub returns-clause-items : goal.returns-clause-items
returns-clause-items c = then_two _ (codes "mismatch: found ") (encode_lower c.args.found.now) _ _ c.append.ensures (cc (c.append_bytes.ensures, c.hex_digits.ensures))
