use Rattle.std.proofs.Common.{◌≡◌, ℕ, List, length, sym, ◌∙◌, subst, arith}
use Rattle.linear_spec.specs.declared.packet.Packet.{Packet}
use Rattle.linear_spec.specs.Solving.{Solves}
use Rattle.plain_basis.specs.BackSubstitution.{AreRows}
use Rattle.plain_basis.proofs.BackSubstitution.{HasBlockLaws, IsSolvedFrom, solved_none, solved_all, as_many, as_long, has_pivot, solved_step}
use Rattle.plain_basis.proofs.solve.solve_rows.Goals as goal

rows_of : (k s : ℕ) (rows items : List Packet) → rows ≡ items → AreRows k s items → AreRows k s rows
rows_of k s rows items same are = subst (AreRows k s) (sym same) are

pub loop-at-init : goal.loop-at-init
loop-at-init c =
    subst (IsSolvedFrom c.args.k c.args.s c.as_slice-rows.result.now (length c.as_slice-rows.result.now)) (sym c.in_ok-blocks.ensures)
    (solved_none c.args.k c.args.s c.as_slice-rows.result.now (rows_of c.args.k c.args.s c.as_slice-rows.result.now c.args.rows.now.items c.as_slice-rows.ensures c.requires.rows))

pub block_of-requires-clause-count : goal.block_of-requires-clause-count
block_of-requires-clause-count c =
    as_many c.args.k c.args.s c.as_slice-rows.result.now (rows_of c.args.k c.args.s c.as_slice-rows.result.now c.args.rows.now.items c.as_slice-rows.ensures c.requires.rows) c.loop-at.at c.index-rows-at.result c.loop-at.blocks.items
    (omega arith) (omega arith) c.index-rows-at.is c.loop-at.invariant

pub block_of-requires-clause-vectors : goal.block_of-requires-clause-vectors
block_of-requires-clause-vectors c =
    as_long c.args.k c.args.s c.as_slice-rows.result.now (rows_of c.args.k c.args.s c.as_slice-rows.result.now c.args.rows.now.items c.as_slice-rows.ensures c.requires.rows) c.loop-at.at c.index-rows-at.result c.loop-at.blocks.items
    (omega arith) (omega arith) c.index-rows-at.is c.loop-at.invariant

pub loop-at-preserved-in-Some : goal.loop-at-preserved-in-Some
loop-at-preserved-in-Some c =
    let laws : HasBlockLaws = record {
      first = c.combinations.ensures.first;
      is_vector = c.combinations.ensures.is_vector;
      known = c.solving.ensures.known;
      kept = c.solving.ensures.kept;
    } in
    solved_step c.args.k c.args.s c.as_slice-rows.result.now (rows_of c.args.k c.args.s c.as_slice-rows.result.now c.args.rows.now.items c.as_slice-rows.ensures c.requires.rows) laws c.loop-at.at c.in-Some.pivot c.index-rows-at.result
    c.in_ok-block.block c.loop-at.blocks.items c.put_block.new.blocks.items (omega arith) (omega arith)
    c.index-rows-at.is c.loop-at.invariant c.in-Some.ensures.0 c.in_ok-block.ensures c.put_block.ensures

-- each row has a pivot
pub loop-at-preserved : goal.loop-at-preserved
loop-at-preserved c =
    absurd
    (has_pivot c.args.k c.args.s c.as_slice-rows.result.now
    (rows_of c.args.k c.args.s c.as_slice-rows.result.now c.args.rows.now.items c.as_slice-rows.ensures c.requires.rows) c.loop-at.at
    c.index-rows-at.result (omega arith) (omega arith) c.index-rows-at.is c.in_default.ensures)

-- what solves the rows solves the packets that they stand for, and those have just one solution
pub returns-clause-only : goal.returns-clause-only
returns-clause-only c others too =
    let k = c.args.k in
    let s = c.args.s in
    let are = c.requires.rows in
    let items = c.args.rows.now.items in
    let rows = c.as_slice-rows.result.now in
    let blocks = c.loop-at.blocks.items in
    let none : c.loop-at.at ≡ 0 = omega arith in
    let solve : Solves k s items blocks =
    subst (λ list. Solves k s list blocks) c.as_slice-rows.ensures
    (solved_all k s rows (rows_of k s rows items c.as_slice-rows.ensures are) blocks (subst (λ at. IsSolvedFrom k s rows at blocks) none c.loop-at.invariant)) in
    let full : length are.packets ≡ k = sym are.stand.count ∙ c.requires.full in
    c.solving.ensures.only k s are.packets items blocks others are.fit are.stand full
    (c.solving.ensures.rows k s are.packets items blocks are.fit are.stand solve)
    (c.solving.ensures.rows k s are.packets items others are.fit are.stand too)
