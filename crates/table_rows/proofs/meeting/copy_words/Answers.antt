use Rattle.std.proofs.Common.{◌≡◌, ◌+◌, arith}
use Rattle.table_rows.proofs.Copies.{one_more}
use Rattle.table_rows.proofs.meeting.copy_words.Goals as goal

pub loop-at-preserved : goal.loop-at-preserved
loop-at-preserved c =
    let before : c.loop-at.out.spare + c.loop-at.at ≡ c.args.out.now.spare = c.loop-at.invariant.spare in
    let put : c.put.new.self.spare + 1 ≡ c.loop-at.out.spare = c.put.ensures.spare in record {
      items = one_more _ _ _ _ c.loop-at.at c.word.result c.loop-at.invariant.items c.word.ensures c.put.ensures.items;
      spare = omega arith;
    }
