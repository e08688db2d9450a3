-- The worked records of the tests: rows that are filled word by word, and that each record may come first or after the other.
use Rattle.std.proofs.Common.{◌≡◌, ℕ, zero, suc, ◌+◌, ◌<◌, List, [], ◌∷◌, ◌++◌, length, map, take, drop, get_or, set, refl, ap, ◌∙◌, arith}
use Rattle.std.specs.Prelude.{Some}
use Rattle.std.proofs.lemmas.List.{get_or-set_same, set-set}
use Rattle.table_rows.proofs.Fronts.{Row}

-- a row of which the first words are there, with one word more
filled : (ws : List ℕ) (row : Row) (i x : ℕ) → length ws ≡ length row → i < length ws
    → set (map Some (take i ws) ++ drop i row) i (Some x) ≡ map Some (take (suc i) (set ws i x)) ++ drop (suc i) row
filled [] row i x e lt = absurd (omega arith)
filled (w ∷ ws) [] i x e lt = absurd (omega arith)
filled (w ∷ ws) (r ∷ row) zero x e lt = refl
filled (w ∷ ws) (r ∷ row) (suc i) x e lt = ap (λ (l : Row). Some w ∷ l) (filled ws row i x (omega arith) (omega arith))

filled_read : (ws : List ℕ) (row : Row) (i x : ℕ) → length ws ≡ length row → i < length ws
    → set (map Some (take i ws) ++ drop i row) i (Some x) ≡ map Some (take (i + 1) (set ws i x)) ++ drop (i + 1) row
filled_read ws row i x e lt = let next : suc i ≡ i + 1 = omega arith in
    filled ws row i x e lt ∙ ap (λ (n : ℕ). map Some (take n (set ws i x)) ++ drop n row) next

-- a read of the next word of region n
pub read_next : (read : List Row) (n i x : ℕ) (ws : List ℕ) → n < length read → length ws ≡ length (get_or read n []) → i < length ws
    → (let before : List Row = set read n (map Some (take i ws) ++ drop i (get_or read n [])) in
    set before n (set (get_or before n []) i (Some x)) ≡ set read n (map Some (take (i + 1) (set ws i x)) ++ drop (i + 1) (get_or read n [])))
read_next read n i x ws ln e lt =
    let row : Row = map Some (take i ws) ++ drop i (get_or read n []) in
    ap (λ (r : Row). set (set read n row) n (set r i (Some x))) (get_or-set_same read n row [] ln)
    ∙ (set-set read n row (set row i (Some x)) ∙ ap (λ (r : Row). set read n r) (filled_read ws (get_or read n []) i x e lt))
