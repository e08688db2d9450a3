use Rattle.std.proofs.Common.{◌≡◌, ◌+◌, ◌<◌, ◌≤◌, ◌^◌, map, ap, ◌∙◌, arith, rules}
use Rattle.table_rows.specs.Layout.{region_length}
use Rattle.shared_basis.proofs.NewPassLemmas.{new_pass_is}
use Rattle.shared_basis.proofs.basis.new_pass.Goals as goal

pub invariant_of-result : goal.invariant_of-result
invariant_of-result c =
    let p = c.args.seat.view.sight.parameters in
    let basis = c.requires.basis in
    let below : c.args.number < p.passes = let here = c.requires.number in let same = basis.passes_are in omega arith in
    let width : region_length c.args.params.now.k c.args.params.now.s
    ≡ region_length p.k p.s = λ i. region_length (basis.k i) (basis.s i) in
    let room : p.k ≤ c.reserve.new.self.spare = let given = c.in_ok-reserve.ensures.room in let same = basis.k in let from = c.from.ensures in omega arith in
    let narrow : region_length p.k p.s < 2 ^ 32 = let fits = c.fits-params in let same = basis.k in let as_well = basis.s in omega arith in
    new_pass_is c.histories.ensures.none _ _ p c.args.number _ _ _ _
    basis.parameters c.requires.seat below c.requires.founder (ap (λ n. n + 1) c.from-2.ensures)
    (c.in_ok-reserve.ensures.items ∙ c.new-known.ensures) room (c.in_ok-words.ensures.len
    ∙ c.words_of_region-width.ensures.value ∙ width) narrow
    (record { coeffs = c.in_ok-left.ensures.lengths.0 ∙ basis.k; payload = c.in_ok-left.ensures.lengths.1 ∙ basis.s })
    (record { coeffs = c.in_ok-row.ensures.lengths.0 ∙ basis.k; payload = c.in_ok-row.ensures.lengths.1 ∙ basis.s })
    (c.in_ok-reserve-2.ensures.items ∙ c.new-calls.ensures)
    (ap (λ l. map (λ packet. packet.value) l) (c.in_ok-reserve-3.ensures.items ∙ c.new-offered.ensures))
    (search rules) (search rules) c.requires.room
