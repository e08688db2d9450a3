use Rattle.std.proofs.Common.{subst, arith}
use Rattle.linear_spec.specs.Symbols.{AreBytes}
use Rattle.avalanche_cli.proofs.SeedLemmas.{told_whole}
use Rattle.avalanche_cli.proofs.seed.file_of_input.Goals as goal

pub returns-in-Ok-clause-file : goal.returns-in-Ok-clause-file
returns-in-Ok-clause-file g c = record {
  told = told_whole _ _ c.in-Ok.file.items c.in-Ok.ensures.whole c.in-Ok.ensures.end;
  seedable = record {
    in_range = c.requires;
    are_bytes = subst AreBytes c.as_slice.ensures c.are_bytes.ensures;
    within = omega (arith, c.in-Ok.ensures.within, c.limit_of-limit.ensures);
  };
}
