use Rattle.std.proofs.Common.{ℕ, ◌+◌, length, sym, ap, ◌∙◌, subst}
use Rattle.std.proofs.lemmas.List.{length_push}
use Rattle.table_rows.specs.Seats.{IsMadeWith}
use Rattle.shared_reception.proofs.Made.{bases_more}
use Rattle.shared_reception.proofs.making.make_bases.Goals as goal

pub loop-generation-preserved : goal.loop-generation-preserved
loop-generation-preserved c =
    let equations = c.args.equations.now in
    let bases = c.loop-generation.bases.items in
    let basis = c.in_ok-basis.field-0.basis in
    let before = c.loop-generation.invariant in record {
      count = ap length c.in_ok-push.ensures.ok ∙ length_push bases basis ∙ ap (λ (n : ℕ). n + 1) before.count;
      have = bases_more equations c.args.room bases c.push.new.self.items basis c.in_ok-basis.field-0.passes.items c.args.workers.now c.loop-generation.workers c.hand_out.new.workers
          before.have
          (subst (λ (n : ℕ). IsMadeWith basis.parameters n equations.k equations.s (length c.args.workers.now) equations) (sym before.count) c.in_ok-basis.ensures.parameters)
          c.in_ok-basis.ensures.passes
          c.in_ok-hand_out.ensures c.in_ok-push.ensures.ok;
    }
