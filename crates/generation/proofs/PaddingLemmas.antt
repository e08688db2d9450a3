-- Bytes that are padded with zeros.
use Rattle.std.proofs.Common.{ℕ, ◌≡◌, ◌+◌, ◌-◌, ◌<◌, ◌^◌, List, [], ◌∷◌, ◌++◌, length, take, drop, replicate, refl, ap, sym, ◌∙◌, inl, inr, arith, length-append}
use Rattle.std.proofs.Math.Seq.{take-add, take-append-add}
use Rattle.std.specs.List.{All}
use Rattle.std.proofs.lemmas.Bool.{cases_lt}
use Rattle.std.proofs.lemmas.List.{append-nil, append_assoc, drop_all, length-drop, length-replicate, length-take, replicate-append-replicate, take-append-le, take-append-drop, take-replicate, take_all}
use Rattle.std.proofs.lemmas.List.Elements.{All-append, All-head, All-replicate, All-tail, All-take}
use Rattle.linear_spec.specs.Symbols.{AreBytes}
use Rattle.generation.specs.Blocks.{zero_padded}

pub length-zero_padded : (n : ℕ) (bytes : List ℕ) → length (zero_padded n bytes) ≡ n
unfolding zero_padded
length-zero_padded n bytes =
    simp (length-take, length-append, length-replicate) (omega arith)

pub AreBytes-zero_padded : (n : ℕ) (bytes : List ℕ) → AreBytes bytes → AreBytes (zero_padded n bytes)
unfolding zero_padded
AreBytes-zero_padded n bytes are =
    let P : ℕ → Type 0 = λ byte. byte < 2 ^ 8 in
    All-take P n (bytes ++ replicate n 0) (All-append P bytes (replicate n 0) are (All-replicate P n 0 (omega arith)))

-- the bytes that are there, and the zeros beside them
pub zero_padded-split : (n : ℕ) (bytes : List ℕ) → zero_padded n bytes ≡ take n bytes ++ replicate (n - length bytes) 0
unfolding zero_padded
zero_padded-split n bytes =
    elim (cases_lt n (length bytes)) [
      | inl below ↦
          let none : n - length bytes ≡ 0 = omega arith in
          take-append-le n bytes (replicate n 0) (omega arith)
          ∙ sym (ap (λ k. take n bytes ++ replicate k 0) none ∙ append-nil (take n bytes))
      | inr above ↦
          let lacking = n - length bytes in
          let whole : n ≡ length bytes + lacking = omega arith in
          ap (λ k. take k (bytes ++ replicate n 0)) whole
          ∙ take-append-add bytes (replicate n 0) lacking
          ∙ ap (λ zeros. bytes ++ zeros) (take-replicate lacking n 0 (omega arith))
          ∙ ap (λ there. there ++ replicate lacking 0) (sym (take_all n bytes above))
    ]

zero_padded-nil : (n : ℕ) → zero_padded n [] ≡ replicate n 0
unfolding zero_padded
zero_padded-nil n = take-replicate n n 0 (omega arith)

-- padding in two parts
pub zero_padded-add : (m n : ℕ) (bytes : List ℕ) → zero_padded (m + n) bytes ≡ zero_padded m bytes ++ zero_padded n (drop m bytes)
zero_padded-add m n bytes =
    let whole = zero_padded-split (m + n) bytes in
    let front = zero_padded-split m bytes in
    let back = zero_padded-split n (drop m bytes) in
    elim (cases_lt m (length bytes)) [
      | inl below ↦
          let zero : m - length bytes ≡ 0 = omega arith in
          let none = ap (λ k. replicate {A = ℕ} k 0) zero in
          let lacking : m + n - length bytes ≡ n - length (drop m bytes) = omega (arith, length-drop m bytes) in
          let parts = take-add m n bytes in
          let nil = append-nil (take m bytes) in
          let assoc = append_assoc (take m bytes) (take n (drop m bytes)) (replicate (n - length (drop m bytes)) 0) in
          cc
      | inr above ↦
          let none = drop_all m bytes above in
          let all = take_all (m + n) bytes (omega arith) in
          let all_front = take_all m bytes above in
          let nothing = zero_padded-nil n in
          let lacking : m + n - length bytes ≡ (m - length bytes) + n = omega arith in
          let zeros = replicate-append-replicate {A = ℕ} (m - length bytes) n 0 in
          let assoc = append_assoc bytes (replicate (m - length bytes) 0) (replicate n 0) in
          cc
    ]

-- a list of zeros
same_from_zeros : (bytes : List ℕ) → All (λ byte. byte ≡ 0) bytes → bytes ≡ replicate (length bytes) 0
same_from_zeros [] zeros = refl
same_from_zeros (x ∷ xs) zeros =
    let P : ℕ → Type 0 = λ byte. byte ≡ 0 in
    let first : x ≡ 0 = All-head P x xs zeros in
    let rest = same_from_zeros xs (All-tail P x xs zeros) in
    cc

-- zeros that were cut off come back
pub zero_padded-take : (n len : ℕ) (bytes : List ℕ) → length bytes ≡ n → All (λ byte. byte ≡ 0) (drop len bytes) → zero_padded n (take len bytes) ≡ bytes
zero_padded-take n len bytes whole zeros =
    let there = take len bytes in
    let count : length there + length (drop len bytes) ≡ n = omega (arith, length-take len bytes, length-drop len bytes) in
    let lacking : n - length there ≡ length (drop len bytes) = omega arith in
    let split = zero_padded-split n there in
    let all = take_all n there (omega arith) in
    let rest = same_from_zeros (drop len bytes) zeros in
    let seam = take-append-drop len bytes in
    cc
