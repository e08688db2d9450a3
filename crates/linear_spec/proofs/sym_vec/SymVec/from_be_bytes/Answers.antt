use Rattle.std.proofs.Common.{◌<◌, ◌^◌, rules}
use Rattle.std.proofs.lemmas.List.Elements.{All-from_get_or}
use Rattle.linear_spec.specs.Symbols.{AreBytes}
use Rattle.linear_spec.proofs.SymbolLemmas.{be_bytes_of-symbols_of, AreSymbols-symbols_of, length-symbols_of}
use Rattle.linear_spec.proofs.sym_vec.SymVec.from_be_bytes.Goals as goal

pub returns : goal.returns
returns c =
    let bytes : AreBytes c.args.bytes.now = All-from_get_or (λ byte. byte < 2 ^ 8) c.args.bytes.now 0 (λ i below. search (rules, c.type_inv.bytes i)) in
    let is = c.in_ok-symbols.ensures in
    record {
      symbols = is;
      count = rw is (length-symbols_of c.args.bytes.now);
      are_symbols = rw is (AreSymbols-symbols_of c.args.bytes.now bytes);
      spelled = λ even. rw is (be_bytes_of-symbols_of c.args.bytes.now bytes even);
    }
