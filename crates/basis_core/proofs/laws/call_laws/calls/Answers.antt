use Rattle.basis_core.proofs.Recording.{has_records}
use Rattle.basis_core.proofs.Spanned.{all_spanned, rank_is_count}
use Rattle.basis_core.proofs.Told.{answered_over}
use Rattle.basis_core.proofs.laws.call_laws.calls.Goals as goal

pub returns : goal.returns
returns c = record {
  recorded = has_records;
  spans = λ equations given records number calls legal some fit.
      all_spanned c.spans.ensures c.one_case.ensures c.ranks.ensures equations records fit number calls (has_records equations given records number calls legal some)
      (answered_over equations given records number calls legal some);
  rank = λ equations records fit innovative.
      rank_is_count equations records fit innovative c.rows.ensures;
}
