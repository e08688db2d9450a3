use Rattle.std.proofs.Common.{◌≡◌, ◌↔◌, ℕ, ◌<◌, false, length, get_or, sym, ap, ◌∙◌, subst, arith}
use Rattle.std.specs.Bool.{IsTrue}
use Rattle.std.specs.List.{Contains}
use Rattle.linear_spec.specs.Rows.{missing_columns_of, pivot_of}
use Rattle.plain_basis.specs.Basis.{Basis}
use Rattle.plain_basis.specs.Columns.{TellMissingColumns}
use Rattle.plain_basis.proofs.basis.PlainBasis.missing_columns.Goals as goal

-- each row's pivot is one of its coefficients' columns
pub mark_missing-requires : goal.mark_missing-requires
mark_missing-requires c i d below =
    let inside = c.self.inside in
    let stand = c.self.invariant.stand in
    let count = stand.count in
    let stands = stand.each i d d (omega arith) in
    subst (λ n. pivot_of (get_or inside.rows.items i d) < n) (sym stands.fits.coeffs.count) stands.pivot_below

pub returns : goal.returns
returns c =
    let inside = c.self.inside in
    let long : length c.args.out.now ≡ inside.k = c.requires ∙ ap (λ b. b.k) (sym c.self.view_is) in
    let tell : TellMissingColumns inside.k inside.s inside.packets.items c.mark_missing.new.out = record {
      rows = inside.rows.items;
      stand = c.self.invariant.stand;
      columns = subst (λ k. (column : ℕ) → column < k
          → IsTrue (get_or c.mark_missing.new.out column false) ↔ Contains (missing_columns_of k inside.rows.items) column) long c.mark_missing.ensures;
    } in
    record { columns = subst (λ (b : Basis). TellMissingColumns b.k b.s b.packets c.mark_missing.new.out) c.self.view_is tell }
