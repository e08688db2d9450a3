use Rattle.avalanche_cli.proofs.SeedLemmas.{is_shape}
use Rattle.avalanche_cli.proofs.seed.shape_of.Goals as goal

pub unwrap-requires : goal.unwrap-requires
unwrap-requires c = c.new.ensures.succeeds (is_shape c.args.words.now c.args.file.now c.requires.words c.requires.within)
