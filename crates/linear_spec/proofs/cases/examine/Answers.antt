use Rattle.std.proofs.Common.{rules, ◌≡◌, ◌↔◌, IsTrue, length, get_or, replicate, subst, sym}
use Rattle.gf16.specs.Field.{product_of}
use Rattle.linear_spec.specs.Rows.{first_nonzero}
use Rattle.linear_spec.proofs.Examined.{lengths_fit, pivots_fit, reduced_copy, tells_fresh, tells_within, tells_conflicting}
use Rattle.linear_spec.proofs.cases.examine.Goals as goal

pub reduce-requires-clause-fit : goal.reduce-requires-clause-fit
reduce-requires-clause-fit g c = lengths_fit c.args.rows.now.items c.args.packet.now c.in_ok-row.row c.requires c.in_ok-row.ensures

pub reduce-requires-clause-pivots : goal.reduce-requires-clause-pivots
reduce-requires-clause-pivots g c = pivots_fit c.args.rows.now.items c.args.packet.now c.in_ok-row.row c.requires c.in_ok-row.ensures

pub returns-in-Some : goal.returns-in-Some
returns-in-Some g c k s packets before =
    tells_fresh c.field.ensures c.args.rows.now.items c.args.packet.now c.reduce.new.packet
    (reduced_copy c.args.rows.now.items c.args.packet.now c.in_ok-row.row c.reduce.new.packet c.in_ok-row.ensures
    c.reduce.ensures.vector c.reduce.ensures.coeffs c.reduce.ensures.payload) k s packets before
    c.in-Some.inverse.0 c.scale.new.self (search rules)
    (subst (λ v. product_of (get_or v (first_nonzero v) 0) c.in-Some.inverse.0 ≡ 1) c.as_slice.ensures c.in-Some.ensures)
    c.scale.ensures.coeffs c.scale.ensures.payload

pub returns-then-is_zero : goal.returns-then-is_zero
returns-then-is_zero g c k s packets before =
    let told : IsTrue c.is_zero.result ↔ (c.reduce.new.packet.payload ≡ replicate (length c.reduce.new.packet.payload) 0) =
    subst (λ v. IsTrue c.is_zero.result ↔ (v ≡ replicate (length v) 0)) c.as_slice-in-None.ensures c.is_zero.ensures in
    tells_within c.field.ensures c.args.rows.now.items c.args.packet.now c.reduce.new.packet
    (reduced_copy c.args.rows.now.items c.args.packet.now c.in_ok-row.row c.reduce.new.packet c.in_ok-row.ensures
    c.reduce.ensures.vector c.reduce.ensures.coeffs c.reduce.ensures.payload) k s packets before
    (subst (λ v. v ≡ replicate (length v) 0) c.as_slice.ensures c.in-None.ensures)
    (told.0 c.if-is_zero.true)

pub returns : goal.returns
returns g c k s packets before =
    let told : IsTrue c.is_zero.result ↔ (c.reduce.new.packet.payload ≡ replicate (length c.reduce.new.packet.payload) 0) =
    subst (λ v. IsTrue c.is_zero.result ↔ (v ≡ replicate (length v) 0)) c.as_slice-in-None.ensures c.is_zero.ensures in
    tells_conflicting c.field.ensures c.args.rows.now.items c.args.packet.now c.reduce.new.packet
    (reduced_copy c.args.rows.now.items c.args.packet.now c.in_ok-row.row c.reduce.new.packet c.in_ok-row.ensures
    c.reduce.ensures.vector c.reduce.ensures.coeffs c.reduce.ensures.payload) k s packets before
    (subst (λ v. v ≡ replicate (length v) 0) c.as_slice.ensures c.in-None.ensures)
    (λ nothing. let yes = told.1 nothing in let no = c.if-is_zero.false in cc)
