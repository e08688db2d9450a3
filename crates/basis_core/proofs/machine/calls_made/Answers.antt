use Rattle.std.proofs.Common.{◌≡◌, eqb, sym, ap, ◌∙◌, arith}
use Rattle.std.specs.List.{count_by}
use Rattle.std.proofs.lemmas.List.Sums.{length-filter}
use Rattle.basis_core.specs.Machine.{calls_so_far}
use Rattle.basis_core.proofs.machine.calls_made.Goals as goal

pub overflow_cast-result : goal.overflow_cast-result
overflow_cast-result c =
    let same : c.count_of-count.result ≡ calls_so_far c.args.callers.now.items c.args.caller =
    c.count_of-count.ensures ∙ ap (count_by (λ other. eqb other c.args.caller)) c.as_slice.ensures ∙ sym (length-filter (λ other. eqb other c.args.caller) c.args.callers.now.items) in
    let room = c.requires in
    omega arith

pub returns : goal.returns
returns c = c.count_of-count.ensures ∙ ap (count_by (λ other. eqb other c.args.caller)) c.as_slice.ensures ∙ sym (length-filter (λ other. eqb other c.args.caller) c.args.callers.now.items)
