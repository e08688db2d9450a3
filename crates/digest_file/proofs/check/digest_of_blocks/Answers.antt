use Rattle.std.proofs.Common.{◌-◌, ◌*◌, ◌++◌, take, ap, ◌∙◌, subst}
use Rattle.std.specs.List.{flat_map}
use Rattle.sha2.specs.Hashers.{Holds256}
use Rattle.linear_spec.specs.Symbols.{be_bytes_of}
use Rattle.digest_file.proofs.Cuts.{block_fed, left_after}
use Rattle.digest_file.proofs.check.digest_of_blocks.Goals as goal

pub loop-block-preserved : goal.loop-block-preserved
loop-block-preserved c =
    let done = take c.args.len (flat_map be_bytes_of (take c.loop-block.block-index c.args.blocks.now)) in
    let further = block_fed c.args.len c.loop-block.left c.loop-block.block-index c.args.blocks.now c.block-item.result
    c.loop-block-test.true c.block-item.is c.loop-block.invariant.left in
    let symbols = ap (λ s. done ++ take c.loop-block.left (be_bytes_of s)) c.as_slice.ensures in
    record {
      fed = subst (Holds256 c.feed.new.hasher) (symbols ∙ further) (c.feed.ensures done c.loop-block.invariant.fed);
      left = c.saturating_sub-left.ensures
          ∙ ap (λ n. c.loop-block.left - 2 * n) c.len.ensures
          ∙ left_after c.args.len c.loop-block.left c.loop-block.block-index c.args.blocks.now c.block-item.result
          c.loop-block-test.true c.block-item.is c.loop-block.invariant.left;
    }
