use Rattle.std.proofs.Common.{rules, ◌≡◌, ◌∙◌, length}
use Rattle.packet_wire.specs.declared.fault.FeedError.TheVariants.{Fault}
use Rattle.benchmarks.proofs.DecodingLemmas.{fed_all, fed_more, frames_counted, same_error}
use Rattle.benchmarks.proofs.decoding.count_frames.Goals as goal

pub loop-rest-preserved : goal.loop-rest-preserved
loop-rest-preserved c = record {
  fed = fed_more c.args.bytes.now c.loop-rest.decoder c.feed_piece.new.decoder c.loop-rest.frames.items c.feed_piece.new.frames.items
      c.loop-rest.rest.now c.split_at.result.0.now c.split_at.result.1.now
      c.loop-rest.invariant.fed c.split_at.ensures.by_index.0 c.feed_piece.ensures.appended (search rules);
  taken = search rules;
}

pub returns-in_err-finish-clause-fault : goal.returns-in_err-finish-clause-fault
returns-in_err-finish-clause-fault c fault is =
    let after = fed_all c.args.bytes.now c.loop-rest.decoder c.loop-rest.frames.items c.loop-rest.rest.now (search rules) c.loop-rest.invariant.fed in
    (c.in_err-finish.ensures.fault c.args.bytes.now c.loop-rest.frames.items fault after).0
    (same_error c.from_residual-in_err-finish.result c.in_err-finish.field-0.0 (Fault fault) c.from_residual-in_err-finish.ensures.1 is)

pub returns-clause-number : goal.returns-clause-number
returns-clause-number c contents is =
    let after = fed_all c.args.bytes.now c.loop-rest.decoder c.loop-rest.frames.items c.loop-rest.rest.now (search rules) c.loop-rest.invariant.fed in
    let are = c.in_ok-finish.ensures.ok c.args.bytes.now c.loop-rest.frames.items after in
    let counted : c.len.result ≡ length c.loop-rest.frames.items = search rules in
    counted ∙ frames_counted c.args.bytes.now c.loop-rest.frames.items (c.readings.ensures.one_contents c.args.bytes.now) are contents is
