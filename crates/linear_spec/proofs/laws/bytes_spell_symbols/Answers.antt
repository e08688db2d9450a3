use Rattle.linear_spec.proofs.SymbolLemmas.{symbols_of-be_bytes_of, be_bytes_of-symbols_of, length-be_bytes_of, AreSymbols-symbols_of}
use Rattle.linear_spec.proofs.laws.bytes_spell_symbols.Goals as goal

pub returns : goal.returns
returns c = record {
  symbols = symbols_of-be_bytes_of;
  bytes = be_bytes_of-symbols_of;
  are_symbols = AreSymbols-symbols_of;
  length = length-be_bytes_of;
}
