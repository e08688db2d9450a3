use Rattle.std.proofs.Common.{List, ◌∷◌, [], length, ap, arith, length-append}
use Rattle.shared_basis.specs.declared.params.Closed.{Closed}
use Rattle.avalanche_cli.specs.Reception.{trace_of}
use Rattle.avalanche_cli.proofs.TraceLemmas.{taken_more}
use Rattle.avalanche_cli.proofs.reception.traces_of.Goals as goal

pub loop-basis-preserved : goal.loop-basis-preserved
loop-basis-preserved c =
    let off = c.in-Some.ensures.items in
    let counted = ap (λ (l : List Closed). length l) off in
    let one = length-append c.pop.new.self.items (c.in-Some.basis ∷ []) in
    record {
      split = taken_more c.args.bases.items c.loop-basis.bases.items c.pop.new.self.items c.in-Some.basis c.loop-basis.traces.items c.put.new.self.items _ c.loop-basis.invariant.split off (ap (λ n. trace_of n c.in-Some.basis) c.len-in-Some.ensures) c.put.ensures.items;
      room = omega (arith, c.loop-basis.invariant.room, c.put.ensures.spare, counted, one);
      few = omega (arith, c.loop-basis.invariant.few, counted, one);
    }
