-- Columns marked as missing until a row has its pivot there.
use Rattle.std.proofs.Common.{◌≡◌, ◌≢◌, ◌↔◌, ℕ, zero, suc, ◌+◌, ◌<◌, Bool, true, false, not, eqb, List, [], ◌∷◌, length, get_or, replicate, refl, sym, ap, ◌∙◌, subst, arith}
use Rattle.std.specs.List.{Contains, filter, list_any, range_with_len}
use Rattle.std.proofs.lemmas.Bool.{true≢false}
use Rattle.std.proofs.lemmas.List.{get_or-replicate}
use Rattle.std.proofs.lemmas.List.Sums.{passes_at_first}
use Rattle.std.proofs.lemmas.List.Elements.{All-contains, filter_passes}
use Rattle.std.proofs.lemmas.List.FromFn.{length-range_with_len, get_or-range_with_len}
use Rattle.linear_spec.specs.declared.packet.Packet.{Packet}
use Rattle.linear_spec.specs.Rows.{missing_columns_of, pivot_of, first_nonzero}

-- where a symbol is not 0, not all are
pub not_all_zero : (v : List ℕ) → first_nonzero v < length v → v ≢ replicate (length v) 0
not_all_zero v below zeros =
    let passes : not (eqb (get_or v (first_nonzero v) 0) 0) ≡ true = passes_at_first (λ symbol. not (eqb symbol 0)) v 0 below in
    let none = ap (λ u. not (eqb (get_or u (first_nonzero v) 0) 0)) zeros ∙ ap (λ symbol. not (eqb symbol 0)) (get_or-replicate (length v) (first_nonzero v) 0 0 below) in
    cc

-- whether no row has its pivot at the column
abbrev pub is_missing : List Packet → ℕ → Bool
is_missing rows column = not (list_any (λ row. eqb (pivot_of row) column) rows)

-- a flag for each of k columns tells whether it is missing from the rows
pub record AreMarked (k : ℕ) (rows : List Packet) (flags : List Bool) : Type 0 where
  pub count : length flags ≡ k
  pub each : (column : ℕ) → column < k → get_or flags column false ≡ is_missing rows column

-- an element that passes is among those that pass
Contains-filter : (p : ℕ → Bool) (xs : List ℕ) (x : ℕ) → Contains xs x → p x ≡ true → Contains (filter p xs) x
Contains-filter p xs x found holds = go xs found.0 found.1 found.2
  where
    go : (xs : List ℕ) (i : ℕ) → i < length xs → get_or xs i x ≡ x → Contains (filter p xs) x
    go [] i below e = absurd (omega arith)
    go (y ∷ ys) zero below e = at_first (p y) refl
      where
        at_first : (b : Bool) → p y ≡ b → Contains (filter p (y ∷ ys)) x
        at_first true passes = rw (passes) (0, omega arith, e)
        at_first false fails = absurd (true≢false (sym holds ∙ ap p (sym e) ∙ fails))
    go (y ∷ ys) (suc i) below e = later (p y) refl (go ys i (omega arith) e)
      where
        later : (b : Bool) → p y ≡ b → Contains (filter p ys) x → Contains (filter p (y ∷ ys)) x
        later true passes rest = rw (passes) (suc rest.0, (let inside = rest.1 in omega arith), rest.2)
        later false fails rest = rw (fails) rest

-- the flags are true exactly at the missing columns
pub marked_columns : (k : ℕ) (rows : List Packet) (flags : List Bool) → AreMarked k rows flags → (column : ℕ) → column < k
    → (get_or flags column false ≡ true) ↔ Contains (missing_columns_of k rows) column
marked_columns k rows flags marked column below =
    let same : 0 + column ≡ column = omega arith in
    let inside : Contains (range_with_len 0 k) column =
    (column, subst (λ n. column < n) (sym (length-range_with_len 0 k)) below, get_or-range_with_len 0 k column column below ∙ same) in (
      (λ told. Contains-filter (is_missing rows) (range_with_len 0 k) column inside (sym (marked.each column below) ∙ told)),
      (λ found. marked.each column below
          ∙ All-contains (λ x. is_missing rows x ≡ true) (missing_columns_of k rows) column (filter_passes (is_missing rows) (range_with_len 0 k)) found),
    )
