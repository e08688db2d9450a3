use Rattle.std.proofs.Common.{◌∙◌, map, sym, ap}
use Rattle.basis_core.specs.Calls.{call_of}
use Rattle.shared_basis.specs.Bases.{PassValue}
use Rattle.shared_basis.proofs.PassLemmas.{calls_of_kept}
use Rattle.shared_basis.proofs.pass.Pass.calls.Goals as goal

pub returns : goal.returns
returns c =
    let p = c.self.inside in
    sym (calls_of_kept p.calls.items (map (λ packet. packet.value) p.offered.items) c.self.invariant.paired)
    ∙ ap (λ (v : PassValue). map call_of v.calls) c.self.view_is
