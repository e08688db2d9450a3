use Rattle.std.proofs.Common.{◌≡◌, ◌<◌, length, get_or, replicate, ap, ◌∙◌, subst}
use Rattle.linear_spec.specs.Rows.{first_nonzero}
use Rattle.linear_spec.proofs.VectorLaws.{length-plus_scaled}
use Rattle.linear_spec.proofs.ReductionSteps.{not_all_zero, reduced_by}
use Rattle.linear_spec.proofs.reduction.reduce_by.Goals as goal

pub returns-in-Some-clause-vector : goal.returns-in-Some-clause-vector
returns-in-Some-clause-vector g c =
    let place = c.in-Some.pivot in
    reduced_by c.args.packet.now c.args.row.now place (get_or c.as_slice-in-Some.result.now place 0)
    c.add_scaled.new.self.coeffs c.add_scaled.new.self.payload c.requires.coeffs
    (c.in-Some.ensures.0 ∙ ap first_nonzero c.as_slice.ensures)
    (subst (λ v. place < length v) c.as_slice.ensures c.in-Some.ensures.1)
    (ap (λ v. get_or v place 0) c.as_slice-in-Some.ensures) c.add_scaled.ensures.coeffs c.add_scaled.ensures.payload

pub returns-in-Some-clause-coeffs : goal.returns-in-Some-clause-coeffs
returns-in-Some-clause-coeffs g c = ap length c.add_scaled.ensures.coeffs ∙ length-plus_scaled _ c.args.packet.now.coeffs c.args.row.now.coeffs

pub returns-in-Some-clause-payload : goal.returns-in-Some-clause-payload
returns-in-Some-clause-payload g c = ap length c.add_scaled.ensures.payload ∙ length-plus_scaled _ c.args.packet.now.payload c.args.row.now.payload

pub returns-in_default-clause-vector : goal.returns-in_default-clause-vector
returns-in_default-clause-vector g c =
    absurd (not_all_zero c.args.row.now.coeffs c.requires.pivot
    (subst (λ v. v ≡ replicate (length v) 0) c.as_slice.ensures c.in_default.ensures))
