use Rattle.std.proofs.Common.{◌≡◌, ◌∙◌, map, length, sym, ap, arith, rules}
use Rattle.shared_basis.specs.Bases.{PassValue}
use Rattle.shared_basis.proofs.PassLemmas.{kept_count, with_room}
use Rattle.shared_basis.proofs.pass.Pass.reserve.Goals as goal

pub invariant_of-self-2 : goal.invariant_of-self-2
invariant_of-self-2 c =
    let p = c.self.inside in
    let count : length p.calls.items ≡ length c.args.self.now.calls =
    sym (kept_count p.calls.items (map (λ packet. packet.value) p.offered.items) c.self.invariant.paired)
    ∙ ap (λ (v : PassValue). length v.calls) c.self.view_is in
    let items = c.in_ok-reserve.ensures.items in
    let few = c.requires.few in
    with_room p.desk p.founder p.number p.calls c.reserve.new.self (map
    (λ packet. packet.value) p.offered.items) _ p.offered.spare p.spare _ c.args.room
    c.self.invariant items (ap (λ l. map (λ packet. packet.value) l) c.in_ok-reserve-2.ensures.items) (search rules)
    (search rules) (omega arith)
