-- A sum of products, as a loop adds them up from the front.
use Rattle.std.proofs.Common.{◌≡◌, ℕ, zero, suc, ◌+◌, ◌<◌, List, [], ◌∷◌, length, get_or, take, ap, sym, ◌∙◌, arith, add-one}
use Rattle.std.specs.Int.Bits.{xor_assoc, xor_zero_r}
use Rattle.gf16.specs.Field.{sum_of, product_of}
use Rattle.gf16.specs.Sums.{dot_of}

dot_next : (i : ℕ) (u v : List ℕ) → i < length u → i < length v
    → dot_of (take (suc i) u) (take (suc i) v)
    ≡ sum_of (dot_of (take i u) (take i v)) (product_of (get_or u i 0) (get_or v i 0))
dot_next i [] v within there = absurd (omega arith)
dot_next i (x ∷ u) [] within there = absurd (omega arith)
dot_next zero (x ∷ u) (y ∷ v) within there = xor_zero_r (product_of x y)
dot_next (suc i) (x ∷ u) (y ∷ v) within there =
    ap (sum_of (product_of x y)) (dot_next i u v (omega arith) (omega arith))
    ∙ sym (xor_assoc (product_of x y) (dot_of (take i u) (take i v)) (product_of (get_or u i 0) (get_or v i 0)))

pub dot_more : (i : ℕ) (u v : List ℕ) → i < length u → i < length v
    → sum_of (dot_of (take i u) (take i v)) (product_of (get_or u i 0) (get_or v i 0))
    ≡ dot_of (take (i + 1) u) (take (i + 1) v)
dot_more i u v within there = sym (dot_next i u v within there) ∙ ap (λ k. dot_of (take k u) (take k v)) (sym (add-one i))
