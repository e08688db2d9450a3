use Rattle.std.proofs.Common.{◌≡◌, ◌<◌, ◌^◌, [], ◌∷◌, ◌++◌, None}
use Rattle.std.proofs.lemmas.List.Elements.{recursion_from_All}
use Rattle.basis_core.proofs.Local.{local_from_legal}
use Rattle.basis_core.proofs.Whole.{legal_from_local}
use Rattle.basis_core.proofs.Law.{nothing_yet, quiet_gain, unknown_gain, own_gain, together, apart, unknown_gains}
use Rattle.basis_core.specs.Merge.{only}
use Rattle.basis_core.proofs.laws.history_laws.histories.Goals as goal

pub returns : goal.returns
returns c = record {
  none = λ equations number below. legal_from_local equations (only number []) [] (nothing_yet equations number below);
  quiet = λ equations before after records number calls call legal gains quiet order over.
      legal_from_local equations after records
      (quiet_gain equations records before after number calls call (local_from_legal equations before records legal) gains quiet order over);
  other_record = λ equations given records r legal next unknown.
      legal_from_local equations given (records ++ r ∷ []) (unknown_gain equations records r next given (local_from_legal equations given records legal) unknown);
  own_record = λ equations before after records r tag calls legal next gains count order.
      legal_from_local equations after (records ++ r ∷ [])
      (own_gain equations records r next before after tag calls (local_from_legal equations before records legal) gains count order);
  together = λ equations given records number calls some alone.
      legal_from_local equations given records (together equations records given number calls some
      (λ n cs e. local_from_legal equations (only n cs) records (alone n cs e)));
  apart = λ equations given records number calls some legal.
      legal_from_local equations (only number calls) records (apart equations records given number calls some (local_from_legal equations given records legal));
  other_records = λ equations given records more legal innovative unknown.
      legal_from_local equations given (records ++ more) (unknown_gains equations given more records (local_from_legal equations given records legal) innovative
      (recursion_from_All (λ r. (given r.caller ≡ None) × (r.caller < 2 ^ 32)) more unknown));
}
