use Rattle.avalanche_args.proofs.NumberLemmas.{parsed_number, unsigned}
use Rattle.avalanche_args.proofs.judging.number_in.Goals as goal

pub returns : goal.returns
returns c =
    let text = c.args.text.now in
    let plain = unsigned text c.as_bytes.result.now c.in-Some.first.now c.as_bytes.ensures.value c.in-Some.ensures.value c.if-first-eq43.false in
    rw c.ok.ensures.value (parsed_number text c.parse.result plain c.parse.ensures.value.0)
