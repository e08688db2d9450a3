-- Back substitution: the rows from one on are solved, and the blocks at the pivots of the earlier ones are still zero.
use Rattle.std.proofs.Common.{◌≡◌, ◌≢◌, ◌⊎◌, ℕ, suc, ◌-◌, ◌<◌, ◌≤◌, List, [], ◌∷◌, length, take, get_or, set, replicate, refl, sym, ap, ◌∙◌, subst, ⊎_elim, lit<, arith, get_or-set_other}
use Rattle.std.specs.List.{All}
use Rattle.std.proofs.lemmas.List.{length-replicate, get_or-replicate, get_or-take, get_or_default, length-take}
use Rattle.std.proofs.lemmas.List.Elements.{All-cons, All-replicate, All-set}
use Rattle.std.proofs.Math.ListN.{length-set}
use Rattle.gf16.specs.Field.{IsSymbol}
use Rattle.gf16.specs.Sums.{plus_scaled}
use Rattle.linear_spec.specs.declared.packet.Packet.{Packet}
use Rattle.linear_spec.specs.Symbols.{AreSymbols, IsVector}
use Rattle.linear_spec.specs.Combination.{combination_of}
use Rattle.linear_spec.specs.Packet.{IsTrueTo}
use Rattle.linear_spec.specs.Rows.{StandsFor, pivot_of}
use Rattle.linear_spec.specs.Solving.{Solves}
use Rattle.plain_basis.specs.BackSubstitution.{AreRows}

pub record IsSolvedFrom (k s : ℕ) (rows : List Packet) (at : ℕ) (blocks : List (List ℕ)) : Type 0 where
  pub count : length blocks ≡ k
  pub vectors : All (IsVector s) blocks
  pub true_to : (j : ℕ) (d : Packet) → at ≤ j → j < length rows → IsTrueTo s blocks (get_or rows j d)
  pub unknown : (j : ℕ) (d : Packet) → j < at → j < length rows → get_or blocks (pivot_of (get_or rows j d)) [] ≡ replicate s 0

-- the laws of combinations that a step takes
pub record HasBlockLaws : Type 0 where
  pub first : (n c : ℕ) (coefficients vector : List ℕ) (vectors : List (List ℕ))
      → combination_of n (c ∷ coefficients) (vector ∷ vectors) ≡ plus_scaled (combination_of n coefficients vectors) c vector
  pub is_vector : (n : ℕ) (coefficients : List ℕ) (vectors : List (List ℕ)) → AreSymbols coefficients → All (IsVector n) vectors
      → IsVector n (combination_of n coefficients vectors)
  pub known : (s place : ℕ) (coeffs payload : List ℕ) (blocks : List (List ℕ)) → AreSymbols coeffs → IsVector s payload → All (IsVector s) blocks
      → place < length blocks → get_or blocks place [] ≡ replicate s 0 → get_or coeffs place 0 ≡ 1
      → combination_of s coeffs (set blocks place (plus_scaled (combination_of s coeffs blocks) 1 payload)) ≡ payload
  pub kept : (s place : ℕ) (coeffs block : List ℕ) (blocks : List (List ℕ))
      → place < length blocks → get_or blocks place [] ≡ replicate s 0 → get_or coeffs place 0 ≡ 0
      → combination_of s coeffs (set blocks place block) ≡ combination_of s coeffs blocks

module _ (k s : ℕ) (rows : List Packet) (are : AreRows k s rows) where
  pub row_at : (i : ℕ) (d : Packet) → i < length rows → StandsFor k s (take i are.packets) (take i rows) (get_or are.packets i d) (get_or rows i d)
  row_at i d h = let count = are.stand.count in are.stand.each i d d (omega arith)

  cleared_at : (i j : ℕ) (d : Packet) → i < j → j < length rows → get_or (get_or rows j d).coeffs (pivot_of (get_or rows i d)) 0 ≡ 0
  cleared_at i j d h l =
      let inside : i < length (take j rows) = omega (arith, length-take j rows) in
      subst (λ row. get_or (get_or rows j d).coeffs (pivot_of row) 0 ≡ 0) (get_or-take j rows i d h) ((row_at j d l).cleared i d inside)

  pub solved_none : IsSolvedFrom k s rows (length rows) (replicate k (replicate s 0))
  solved_none = record {
    count = length-replicate k (replicate s 0);
    vectors = All-replicate (IsVector s) k (replicate s 0)
        (record { count = length-replicate s 0; symbols = All-replicate IsSymbol s 0 (lit< tt) });
    true_to = λ j d h l. absurd (omega arith);
    unknown = λ j d h l.
        let below = (row_at j d l).pivot_below in
        get_or-replicate k (pivot_of (get_or rows j d)) (replicate s 0) [] below;
  }

  pub solved_all : (blocks : List (List ℕ)) → IsSolvedFrom k s rows 0 blocks → Solves k s rows blocks
  solved_all blocks solved = record {
    count = solved.count;
    vectors = solved.vectors;
    true_to = λ j d l. solved.true_to j d (omega arith) l;
  }

  pub solved_more : HasBlockLaws → (at : ℕ) (row : Packet) (blocks : List (List ℕ)) → at < length rows → row ≡ get_or rows at row → IsSolvedFrom k s rows (suc at) blocks
      → IsSolvedFrom k s rows at (set blocks (pivot_of row) (plus_scaled (combination_of s row.coeffs blocks) 1 row.payload))
  solved_more laws at row blocks there is solved =
      let stands : StandsFor k s (take at are.packets) (take at rows) (get_or are.packets at row) row =
      subst (StandsFor k s (take at are.packets) (take at rows) (get_or are.packets at row)) (sym is) (row_at at row there) in
      let place = pivot_of row in
      let block = plus_scaled (combination_of s row.coeffs blocks) 1 row.payload in
      let count = solved.count in
      let pivot_below = stands.pivot_below in
      let below : place < length blocks = omega arith in
      let none : get_or blocks place [] ≡ replicate s 0 =
      subst (λ r. get_or blocks (pivot_of r) [] ≡ replicate s 0) (sym is) (solved.unknown at row (omega arith) there) in
      let by_block : IsVector s block =
      subst (IsVector s) (laws.first s 1 row.coeffs row.payload blocks)
      (laws.is_vector s (1 ∷ row.coeffs) (row.payload ∷ blocks) (All-cons IsSymbol 1 row.coeffs (lit< tt) stands.fits.coeffs.symbols)
      (All-cons (IsVector s) row.payload blocks stands.fits.payload solved.vectors)) in
      record {
        count = length-set blocks place block ∙ count;
        vectors = All-set (IsVector s) blocks place block by_block solved.vectors;
        true_to = λ j d h l.
            let cases : (at ≡ j) ⊎ (at < j) = grind arith in
            ⊎_elim
            (λ e. subst (IsTrueTo s (set blocks place block)) (same j d e l)
            (laws.known s place row.coeffs row.payload blocks stands.fits.coeffs.symbols stands.fits.payload solved.vectors below none stands.one_at_pivot))
            (λ later.
            let clear : get_or (get_or rows j d).coeffs place 0 ≡ 0 =
            subst (λ r. get_or (get_or rows j d).coeffs (pivot_of r) 0 ≡ 0) (sym (same at d refl there)) (cleared_at at j d later l) in
            laws.kept s place (get_or rows j d).coeffs block blocks below none clear ∙ solved.true_to j d (omega arith) l)
            cases;
        unknown = λ j d h l.
            let pivot = pivot_of (get_or rows j d) in
            let differ : pivot ≢ place = λ e.
            let clear : get_or row.coeffs pivot 0 ≡ 0 =
            subst (λ r. get_or r.coeffs pivot 0 ≡ 0) (sym (same at d refl there)) (cleared_at j at d h there) in
            let zero_is_one : ◌≡◌ {A = ℕ} 0 1 = sym clear ∙ ap (λ p. get_or row.coeffs p 0) e ∙ stands.one_at_pivot in
            absurd (omega arith) in
            get_or-set_other blocks place pivot block [] differ ∙ solved.unknown j d (omega arith) l;
      }
    where
      same : (j : ℕ) (d : Packet) → at ≡ j → j < length rows → row ≡ get_or rows j d
      same j d e l = is ∙ get_or_default rows at row d there ∙ ap (λ i. get_or rows i d) e

  row_stands : (at : ℕ) (row : Packet) → 0 < at → at ≤ length rows → row ≡ get_or rows (at - 1) row
      → StandsFor k s (take (at - 1) are.packets) (take (at - 1) rows) (get_or are.packets (at - 1) row) row
  row_stands at row some most is =
      subst (StandsFor k s (take (at - 1) are.packets) (take (at - 1) rows) (get_or are.packets (at - 1) row)) (sym is)
      (row_at (at - 1) row (omega arith))

  pub as_many : (at : ℕ) (row : Packet) (blocks : List (List ℕ)) → 0 < at → at ≤ length rows → row ≡ get_or rows (at - 1) row
      → IsSolvedFrom k s rows at blocks → length blocks ≡ length row.coeffs
  as_many at row blocks some most is solved = solved.count ∙ sym (row_stands at row some most is).fits.coeffs.count

  pub as_long : (at : ℕ) (row : Packet) (blocks : List (List ℕ)) → 0 < at → at ≤ length rows → row ≡ get_or rows (at - 1) row
      → IsSolvedFrom k s rows at blocks → All (IsVector (length row.payload)) blocks
  as_long at row blocks some most is solved =
      subst (λ n. All (IsVector n) blocks) (sym (row_stands at row some most is).fits.payload.count) solved.vectors

  pub has_pivot : (at : ℕ) (row : Packet) → 0 < at → at ≤ length rows → row ≡ get_or rows (at - 1) row
      → row.coeffs ≡ replicate (length row.coeffs) 0 → ⊥
  has_pivot at row some most is none =
      let stands = row_stands at row some most is in
      let place = pivot_of row in
      let count = stands.fits.coeffs.count in
      let below = stands.pivot_below in
      let e : ◌≡◌ {A = ℕ} 0 1 =
      sym (get_or-replicate (length row.coeffs) place 0 0 (omega arith)) ∙ ap (λ v. get_or v place 0) (sym none) ∙ stands.one_at_pivot in
      absurd (omega arith)

  pub solved_step : HasBlockLaws → (at pivot : ℕ) (row : Packet) (block : List ℕ) (blocks after : List (List ℕ)) → 0 < at → at ≤ length rows
      → row ≡ get_or rows (at - 1) row → IsSolvedFrom k s rows at blocks → pivot ≡ pivot_of row
      → block ≡ plus_scaled (combination_of (length row.payload) row.coeffs blocks) 1 row.payload → after ≡ set blocks pivot block
      → IsSolvedFrom k s rows (at - 1) after
  solved_step laws at pivot row block blocks after some most is solved first told written =
      let stands = row_stands at row some most is in
      let before : at ≡ suc (at - 1) = omega arith in
      let block_is : block ≡ plus_scaled (combination_of s row.coeffs blocks) 1 row.payload =
      told ∙ ap (λ n. plus_scaled (combination_of n row.coeffs blocks) 1 row.payload) stands.fits.payload.count in
      subst (IsSolvedFrom k s rows (at - 1))
      (sym (written ∙ ap (λ p. set blocks p block) first ∙ ap (set blocks (pivot_of row)) block_is))
      (solved_more laws (at - 1) row blocks (omega arith) is (subst (λ n. IsSolvedFrom k s rows n blocks) before solved))
