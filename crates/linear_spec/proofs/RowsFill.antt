-- Why the coefficients of rows and the unit vectors of the missing columns span everything together.
use Rattle.std.proofs.Common.{◌≡◌, ◌≢◌, ◌⊎◌, ℕ, Bool, true, false, not, ◌==◌, zero, suc, ◌+◌, ◌<◌, ◌≤◌, List, [], ◌∷◌, ◌++◌, length, map, take, get_or, replicate, refl, sym, ap, ◌∙◌, subst, ⊎_elim, lit<, arith}
use Rattle.std.specs.List.{All, Contains, filter, list_any, range_with_len}
use Rattle.std.proofs.lemmas.Bool.{true≢false, eqb-true}
use Rattle.std.proofs.lemmas.List.Folds.{list_any_none}
use Rattle.std.proofs.lemmas.List.FromFn.{length-range_with_len, get_or-range_with_len}
use Rattle.std.proofs.lemmas.List.{ext_get_or, get_or_past, get_or-set_same, get_or-set_other, length-set, length-replicate}
use Rattle.std.proofs.lemmas.List.Elements.{All-nil, All-append, All-map, All-set}
use Rattle.gf16.specs.Field.{IsSymbol, IsField, sum_of, product_of}
use Rattle.gf16.specs.Sums.{plus_scaled}
use Rattle.linear_spec.specs.declared.packet.Packet.{Packet}
use Rattle.linear_spec.specs.Symbols.{IsVector}
use Rattle.linear_spec.specs.Span.{InSpan}
use Rattle.linear_spec.specs.UnitVector.{unit_of}
use Rattle.linear_spec.specs.Packet.{Fits, vector_of, coefficients_of}
use Rattle.linear_spec.specs.Rows.{StandForAll, SpanAllWithMissing, missing_columns_of, pivot_of, remainder_of}
use Rattle.linear_spec.proofs.SpanLaws.{IsVector-plus_scaled, IsVector-replicate, IsVector-take, take-plus_scaled, plus_scaled-twice, span-zero, span-head_from, span-plus_scaled, span-grows, span-closed}
use Rattle.linear_spec.proofs.SpanChanges.{span-members, All-right}
use Rattle.linear_spec.proofs.VectorSums.{get_or-zero, symbol_at, at_plus_scaled}
use Rattle.linear_spec.proofs.Echelon.{IsVector-remainder}
use Rattle.linear_spec.proofs.RowSpans.{IsVector-vector, IsVector-coefficients, rows_fit, take-vector, span-coefficients}
use Rattle.linear_spec.proofs.RowPlaces.{clear_below}
use Rattle.linear_spec.proofs.RowLaws.{remainder_is_clear, remainder_in_span}

pub IsVector-unit : (k column : ℕ) → IsVector k (unit_of k column)
IsVector-unit k column =
    let zeros = IsVector-replicate k in
    record {
      count = length-set (replicate k 0) column 1 ∙ zeros.count;
      symbols = All-set IsSymbol (replicate k 0) column 1 (lit< tt) zeros.symbols;
    }

-- a place at which a vector is not 0 is one of its places
pub place_below : (k : ℕ) (v : List ℕ) (place : ℕ) → IsVector k v → get_or v place 0 ≢ 0 → place < k
place_below k v place by_v some =
    let count = by_v.count in
    let cases : (place < k) ⊎ (k ≤ place) = grind arith in
    ⊎_elim (λ below. below) (λ past. absurd (some (get_or_past v place 0 (omega arith)))) cases

zero_or : (x : ℕ) → (x ≢ 0 → ⊥) → x ≡ 0
zero_or zero none = refl
zero_or (suc x) none = absurd (none (λ e. absurd (omega arith)))

module _ (field : IsField) (k : ℕ) where
  -- the symbol at the column taken away
  abbrev without : ℕ → List ℕ → List ℕ
  without column v = plus_scaled v (get_or v column 0) (unit_of k column)

  IsVector-without : (column : ℕ) (v : List ℕ) → IsVector k v → IsVector k (without column v)
  IsVector-without column v by_v = IsVector-plus_scaled field k (get_or v column 0) v (unit_of k column) by_v
      (symbol_at k v column by_v)

  at_other : (column place : ℕ) (v : List ℕ) → IsVector k v → place ≢ column
      → get_or (without column v) place 0 ≡ get_or v place 0
  at_other column place v by_v other =
      let c = get_or v column 0 in
      at_plus_scaled field k c v (unit_of k column) place by_v (IsVector-unit k column)
      ∙ ap (λ x. sum_of (get_or v place 0) (product_of c x))
      (get_or-set_other (replicate k 0) column place 1 0 other ∙ get_or-zero k place)
      ∙ ap (sum_of (get_or v place 0)) (field.product_zero c) ∙ field.sum_zero (get_or v place 0)

  at_column : (column : ℕ) (v : List ℕ) → IsVector k v → get_or (without column v) column 0 ≡ 0
  at_column column v by_v =
      let c = get_or v column 0 in
      let count = by_v.count in
      let cases : (column < k) ⊎ (k ≤ column) = grind arith in
      ⊎_elim
      (λ below.
      at_plus_scaled field k c v (unit_of k column) column by_v (IsVector-unit k column)
      ∙ ap (λ x. sum_of c (product_of c x))
      (get_or-set_same (replicate k 0) column 1 0 (omega (arith, length-replicate {A = ℕ} k 0)))
      ∙ ap (sum_of c) (field.product_one c) ∙ field.sum_self c)
      (λ past. let longer = (IsVector-without column v by_v).count in get_or_past (without column v) column 0 (omega arith))
      cases

  Contains-rest : (column place : ℕ) (columns : List ℕ) → Contains (column ∷ columns) place → place ≢ column
      → Contains columns place
  Contains-rest column place columns found other = at found.0 found.1 found.2
    where
      at : (i : ℕ) → i < suc (length columns) → get_or (column ∷ columns) i place ≡ place → Contains columns place
      at zero below e = absurd (other (sym e))
      at (suc i) below e = (i, omega arith, e)

  -- a vector whose symbols that are not 0 stand at these columns
  pub span-units : (columns : List ℕ) (v : List ℕ) → IsVector k v
      → ((place : ℕ) → get_or v place 0 ≢ 0 → Contains columns place) → InSpan k (map (unit_of k) columns) v
  span-units [] v by_v within =
      let zeros = IsVector-replicate k in
      let none : v ≡ replicate k 0 = ext_get_or 0 v (replicate k 0) (by_v.count ∙ sym zeros.count)
      (λ i h. zero_or (get_or v i 0) (λ some. let found = within i some in let below = found.1 in absurd (omega arith))
      ∙ sym (get_or-zero k i)) in
      subst (InSpan k []) (sym none) (span-zero field k [] (All-nil (IsVector k)))
  span-units (column ∷ columns) v by_v within =
      let c = get_or v column 0 in
      let unit = unit_of k column in
      subst (InSpan k (unit ∷ map (unit_of k) columns)) (plus_scaled-twice field c v unit)
      (span-head_from field k c unit (map (unit_of k) columns) (without column v) (IsVector-unit k column)
      (symbol_at k v column by_v)
      (span-units columns (without column v) (IsVector-without column v by_v) (λ place some.
      let other : place ≢ column = λ e. some (ap (λ p. get_or (without column v) p 0) e ∙ at_column column v by_v) in
      Contains-rest column place columns (within place (λ none. some (at_other column place v by_v other ∙ none))) other)))

Contains-filter : (p : ℕ → Bool) (xs : List ℕ) (x : ℕ) → Contains xs x → p x ≡ true → Contains (filter p xs) x
Contains-filter p xs x found holds = go xs found.0 found.1 found.2
  where
    go : (xs : List ℕ) (i : ℕ) → i < length xs → get_or xs i x ≡ x → Contains (filter p xs) x
    go [] i below e = absurd (omega arith)
    go (y ∷ ys) zero below e = at_first (p y) refl
      where
        at_first : (b : Bool) → p y ≡ b → Contains (filter p (y ∷ ys)) x
        at_first true passes = rw (passes) (0, omega arith, e)
        at_first false fails = absurd (true≢false (sym holds ∙ ap p (sym e) ∙ fails))
    go (y ∷ ys) (suc i) below e = later (p y) refl (go ys i (omega arith) e)
      where
        later : (b : Bool) → p y ≡ b → Contains (filter p ys) x → Contains (filter p (y ∷ ys)) x
        later true passes rest = rw (passes) (suc rest.0, (let inside = rest.1 in omega arith), rest.2)
        later false fails rest = rw (fails) rest

differ : (a b : ℕ) → a ≢ b → (a == b) ≡ false
differ a b other = at (a == b) refl
  where
    at : (r : Bool) → (a == b) ≡ r → (a == b) ≡ false
    at true same = absurd (other (eqb-true a b same))
    at false same = same

-- a column below k that is the pivot of no row is among the missing columns
missing_found : (k : ℕ) (rows : List Packet) (column : ℕ) → column < k → All (λ row. pivot_of row ≢ column) rows
    → Contains (missing_columns_of k rows) column
missing_found k rows column below other =
    let same : 0 + column ≡ column = omega arith in
    Contains-filter (λ column. not (list_any (λ row. pivot_of row == column) rows)) (range_with_len 0 k) column
    (column, subst (λ n. column < n) (sym (length-range_with_len 0 k)) below, get_or-range_with_len 0 k column column below ∙ same)
    (ap not (list_any_none (λ row. pivot_of row == column) rows (λ i d h. differ (pivot_of (get_or rows i d)) column (other i d h))))

pub rows_fill : (field : IsField) (k s : ℕ) (packets rows : List Packet) → StandForAll k s packets rows
    → SpanAllWithMissing k rows
rows_fill field k s packets rows stand vector by_vector =
    let columns = missing_columns_of k rows in
    let missing : (column : ℕ) → column < k → All (λ row. pivot_of row ≢ column) rows → Contains columns column = missing_found k rows in
    let packet : Packet = record { generation = 0; coeffs = vector; payload = replicate s 0 } in
    let fits : Fits k s packet = record { coeffs = by_vector; payload = IsVector-replicate s } in
    let whole = vector_of packet in
    let by_whole = IsVector-vector k s packet fits in
    let remainder = remainder_of rows whole in
    let rest = take k remainder in
    let by_rest : IsVector k rest = IsVector-take k s remainder (IsVector-remainder field (k + s) rows whole by_whole) in
    let clear = clear_below k s packets rows stand remainder (remainder_is_clear field k s packets rows whole stand by_whole) in
    let units = map (unit_of k) columns in
    let coefficients = coefficients_of rows in
    let by_rows = IsVector-coefficients k s rows (rows_fit k s packets rows stand) in
    let by_units : All (IsVector k) units = All-map (IsVector k) (unit_of k) columns
    (λ i d h. IsVector-unit k (get_or columns i d)) in
    let by_all = All-append (IsVector k) coefficients units by_rows by_units in
    let sum : InSpan k coefficients (plus_scaled vector 1 rest) =
    subst (InSpan k coefficients)
    (take-plus_scaled k 1 whole remainder ∙ ap (λ v. plus_scaled v 1 rest) (take-vector k s packet fits))
    (span-coefficients k s field rows (plus_scaled whole 1 remainder) (rows_fit k s packets rows stand)
    (remainder_in_span field k s packets rows whole stand by_whole)) in
    let in_units : InSpan k units rest = span-units field k columns rest by_rest (λ place some.
    missing place (place_below k rest place by_rest some) (λ i d h e. some (ap (λ p. get_or rest p 0) (sym e) ∙ clear i d h))) in
    let members = All-right (InSpan k (coefficients ++ units)) coefficients units
    (span-members field k (coefficients ++ units) by_all) in
    subst (InSpan k (coefficients ++ units)) (plus_scaled-twice field 1 vector rest)
    (span-plus_scaled field k 1 (coefficients ++ units) (plus_scaled vector 1 rest) rest by_all (lit< tt)
    (span-grows field k coefficients units (plus_scaled vector 1 rest) by_all sum)
    (span-closed field k units (coefficients ++ units) rest by_units by_all members in_units))
