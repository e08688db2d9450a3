-- The sum of the products of two lists once a place of one is changed.
use Rattle.std.proofs.Common.{◌≡◌, ℕ, zero, suc, ◌<◌, List, [], ◌∷◌, length, get_or, set, refl, sym, ap, ap₂, ◌∙◌, arith}
use Rattle.gf16.specs.Field.{IsField, sum_of, product_of}
use Rattle.gf16.specs.Sums.{dot_of}
use Rattle.linear_spec.proofs.VectorLaws.{sum-exchange, sum-twice}
use Rattle.linear_spec.proofs.SpanLaws.{dot-nil}

module _ (field : IsField) where
  -- (x + d) + (a + x) = a + d
  replaced : (x a d : ℕ) → sum_of (sum_of x d) (sum_of a x) ≡ sum_of a d
  replaced x a d =
      sym (field.sum_associates (sum_of x d) a x)
      ∙ ap (λ q. sum_of (sum_of q a) x) (field.sum_commutes x d)
      ∙ sum-exchange field (sum_of d x) a x
      ∙ ap (λ q. sum_of q a) (sum-twice field d x)
      ∙ field.sum_commutes d a

  pub first_changed : (i a : ℕ) (u v : List ℕ) → i < length u
      → dot_of (set u i a) v ≡ sum_of (dot_of u v) (product_of (sum_of a (get_or u i 0)) (get_or v i 0))
  first_changed i a [] v below = absurd (omega arith)
  first_changed i a (x ∷ u) [] below =
      dot-nil (set (x ∷ u) i a) ∙ sym (field.zero_sum 0) ∙ ap (sum_of 0) (sym (field.product_zero (sum_of a (get_or (x ∷ u) i 0))))
  first_changed zero a (x ∷ u) (y ∷ v) below =
      sym (ap (sum_of (dot_of (x ∷ u) (y ∷ v))) (field.product_distributes_left a x y)
      ∙ replaced (product_of x y) (product_of a y) (dot_of u v))
  first_changed (suc i) a (x ∷ u) (y ∷ v) below =
      ap (sum_of (product_of x y)) (first_changed i a u v (omega arith))
      ∙ sym (field.sum_associates (product_of x y) (dot_of u v) (product_of (sum_of a (get_or u i 0)) (get_or v i 0)))

  pub second_changed : (i a : ℕ) (u v : List ℕ) → i < length v
      → dot_of u (set v i a) ≡ sum_of (dot_of u v) (product_of (get_or u i 0) (sum_of a (get_or v i 0)))
  second_changed i a u [] below = absurd (omega arith)
  second_changed i a [] (y ∷ v) below =
      sym (field.zero_sum 0) ∙ ap (sum_of 0) (sym (field.zero_product (sum_of a (get_or (y ∷ v) i 0))))
  second_changed zero a (x ∷ u) (y ∷ v) below =
      sym (ap (sum_of (dot_of (x ∷ u) (y ∷ v))) (field.product_distributes x a y)
      ∙ replaced (product_of x y) (product_of x a) (dot_of u v))
  second_changed (suc i) a (x ∷ u) (y ∷ v) below =
      ap (sum_of (product_of x y)) (second_changed i a u v (omega arith))
      ∙ sym (field.sum_associates (product_of x y) (dot_of u v) (product_of (get_or u i 0) (sum_of a (get_or v i 0))))
