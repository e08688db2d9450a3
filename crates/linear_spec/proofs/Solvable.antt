-- Packets that have rows can be solved: from the last row to the first, each tells the block at its pivot.
use Rattle.std.proofs.Common.{◌≡◌, ◌≢◌, ◌⊎◌, ℕ, zero, suc, ◌-◌, ◌<◌, ◌≤◌, List, [], ◌∷◌, length, get_or, set, replicate, sym, ap, ◌∙◌, subst, ⊎_elim, refl, lit<, arith, get_or-set_other}
use Rattle.std.specs.List.{All}
use Rattle.std.proofs.lemmas.List.{length-replicate, get_or-replicate, get_or_default}
use Rattle.std.proofs.lemmas.List.Elements.{All-replicate, All-set}
use Rattle.std.proofs.Math.ListN.{length-set}
use Rattle.gf16.specs.Field.{IsField}
use Rattle.gf16.specs.Sums.{plus_scaled}
use Rattle.linear_spec.specs.declared.packet.Packet.{Packet}
use Rattle.linear_spec.specs.Symbols.{IsVector}
use Rattle.linear_spec.specs.Combination.{combination_of}
use Rattle.linear_spec.specs.Packet.{Fits, IsTrueTo}
use Rattle.linear_spec.specs.Rows.{StandForAll, pivot_of}
use Rattle.linear_spec.specs.Solving.{IsOnlySolution, Solves}
use Rattle.linear_spec.proofs.SpanLaws.{IsVector-combination, IsVector-plus_scaled, IsVector-replicate}
use Rattle.linear_spec.proofs.RowPlaces.{cleared_at, row_at}
use Rattle.linear_spec.proofs.Solutions.{block_known, block_kept, one_solution, solve_from_rows}

-- the rows from one on are solved, and the blocks at the pivots of the earlier ones are still zeros
record IsSolvedFrom (k s : ℕ) (rows : List Packet) (at : ℕ) (blocks : List (List ℕ)) : Type 0 where
  count : length blocks ≡ k
  vectors : All (IsVector s) blocks
  true_to : (j : ℕ) (d : Packet) → at ≤ j → j < length rows → IsTrueTo s blocks (get_or rows j d)
  unknown : (j : ℕ) (d : Packet) → j < at → j < length rows → get_or blocks (pivot_of (get_or rows j d)) [] ≡ replicate s 0

module _ (field : IsField) (k s : ℕ) (packets rows : List Packet) (stand : StandForAll k s packets rows) where
  solved_none : IsSolvedFrom k s rows (length rows) (replicate k (replicate s 0))
  solved_none = record {
    count = length-replicate k (replicate s 0);
    vectors = All-replicate (IsVector s) k (replicate s 0) (IsVector-replicate s);
    true_to = λ j d h l. absurd (omega arith);
    unknown = λ j d h l. get_or-replicate k (pivot_of (get_or rows j d)) (replicate s 0) [] (row_at k s packets rows stand j d l).pivot_below;
  }

  solved_more : (at : ℕ) (row : Packet) (blocks : List (List ℕ)) → at < length rows → ((d : Packet) → get_or rows at d ≡ row) → IsSolvedFrom k s rows (suc at) blocks
      → IsSolvedFrom k s rows at (set blocks (pivot_of row) (plus_scaled (combination_of s row.coeffs blocks) 1 row.payload))
  solved_more at row blocks there is solved =
      let own : Fits k s row = subst (Fits k s) (is row) (row_at k s packets rows stand at row there).fits in
      let one : get_or row.coeffs (pivot_of row) 0 ≡ 1 =
      subst (λ r. get_or r.coeffs (pivot_of r) 0 ≡ 1) (is row) (row_at k s packets rows stand at row there).one_at_pivot in
      let pivot_below : pivot_of row < k = subst (λ r. pivot_of r < k) (is row) (row_at k s packets rows stand at row there).pivot_below in
      let place = pivot_of row in
      let known = combination_of s row.coeffs blocks in
      let block = plus_scaled known 1 row.payload in
      let count = solved.count in
      let below : place < length blocks = omega arith in
      let none : get_or blocks place [] ≡ replicate s 0 =
      subst (λ r. get_or blocks (pivot_of r) [] ≡ replicate s 0) (is row) (solved.unknown at row (omega arith) there) in
      let by_block : IsVector s block =
      IsVector-plus_scaled field s 1 known row.payload (IsVector-combination field s row.coeffs blocks own.coeffs.symbols solved.vectors) (lit< tt) in
      record {
        count = length-set blocks place block ∙ count;
        vectors = All-set (IsVector s) blocks place block by_block solved.vectors;
        true_to = λ j d h l.
            let cases : (at ≡ j) ⊎ (at < j) = grind arith in
            ⊎_elim
            (λ e. subst (IsTrueTo s (set blocks place block)) (sym (is d) ∙ ap (λ i. get_or rows i d) e)
            (block_known field s place row.coeffs row.payload blocks own.coeffs.symbols own.payload solved.vectors below none one))
            (λ later.
            let clear : get_or (get_or rows j d).coeffs place 0 ≡ 0 =
            subst (λ r. get_or (get_or rows j d).coeffs (pivot_of r) 0 ≡ 0) (is d) (cleared_at k s packets rows stand at j d later l) in
            block_kept field s place (get_or rows j d).coeffs block blocks below none clear ∙ solved.true_to j d (omega arith) l)
            cases;
        unknown = λ j d h l.
            let pivot = pivot_of (get_or rows j d) in
            let differ : pivot ≢ place = λ e.
            let clear : get_or row.coeffs pivot 0 ≡ 0 =
            subst (λ r. get_or r.coeffs pivot 0 ≡ 0) (is d) (cleared_at k s packets rows stand j at d h there) in
            let zero_is_one : ◌≡◌ {A = ℕ} 0 1 = sym clear ∙ ap (λ p. get_or row.coeffs p 0) e ∙ one in
            absurd (omega arith) in
            get_or-set_other blocks place pivot block [] differ ∙ solved.unknown j d (omega arith) l;
      }

  -- all rows from some place on can be solved
  solved_from : (left : ℕ) → left ≤ length rows → (blocks : List (List ℕ)) × IsSolvedFrom k s rows (length rows - left) blocks
  solved_from zero within =
      let all : length rows ≡ length rows - 0 = omega arith in
      (replicate k (replicate s 0), subst (λ n. IsSolvedFrom k s rows n (replicate k (replicate s 0))) all solved_none)
  solved_from (suc left) within =
      let later = solved_from left (omega arith) in
      let at = length rows - suc left in
      let next : length rows - left ≡ suc at = omega arith in
      let blank : Packet = record { generation = 0; coeffs = []; payload = [] } in
      let row = get_or rows at blank in
      let there : at < length rows = omega arith in (
        set later.0 (pivot_of row) (plus_scaled (combination_of s row.coeffs later.0) 1 row.payload),
        solved_more at row later.0 there (λ d. get_or_default rows at d blank there)
            (subst (λ n. IsSolvedFrom k s rows n later.0) next later.1),
      )

  rows_solvable : (blocks : List (List ℕ)) × Solves k s rows blocks
  rows_solvable =
      let all = solved_from (length rows) (omega arith) in
      let none : length rows - length rows ≡ 0 = omega arith in
      let solved : IsSolvedFrom k s rows 0 all.0 = subst (λ n. IsSolvedFrom k s rows n all.0) none all.1 in
      (all.0, record { count = solved.count; vectors = solved.vectors; true_to = λ j d l. solved.true_to j d (omega arith) l })

  pub solvable : All (Fits k s) packets → (blocks : List (List ℕ)) × Solves k s packets blocks
  solvable fit = let found = rows_solvable in (found.0, solve_from_rows field k s packets rows fit stand found.0 found.1)

  pub solvable_once : All (Fits k s) packets → length packets ≡ k
      → (blocks : List (List ℕ)) × Solves k s packets blocks × IsOnlySolution k s packets blocks
  solvable_once fit full =
      let found = solvable fit in
      (found.0, found.1, λ others too. one_solution field k s packets fit rows found.0 others stand full found.1 too)
