-- The worked records of the tests: each may come first, or after the other.
use Rattle.std.proofs.Common.{◌≡◌, ◌≢◌, ℕ, List, [], ◌∷◌, ◌++◌, map, take, drop, replicate, sym, refl, ap, ◌∙◌, subst, arith}
use Rattle.std.specs.Prelude.{All, ◌↔◌, slice_index}
use Rattle.std.proofs.lemmas.List.Elements.{All-cons, All-nil}
use Rattle.gf16.specs.Field.{IsField, IsSymbol, product_of, sum_of}
use Rattle.gf16.specs.Sums.{plus_scaled, scaled}
use Rattle.linear_spec.specs.declared.packet.Packet.{Packet}
use Rattle.linear_spec.specs.Symbols.{IsVector}
use Rattle.linear_spec.specs.Packet.{Fits, vector_of}
use Rattle.linear_spec.specs.Cases.{IsFresh}
use Rattle.linear_spec.specs.Rows.{StandsFor, StandForAll, IsRowOf, first_nonzero, pivot_of, remainder_of}
use Rattle.table_rows.specs.declared.view.Parameters.{Parameters}
use Rattle.table_rows.specs.Layout.{length_of, pivot_in, pivots_of_words, records_of_words, rows_of_words}
use Rattle.table_rows.specs.Good.{HasRecord, IsNextRegion, packet_at, row_at}
use Rattle.table_rows.specs.Worked.{IsSmall}

-- what the laws of rows say
pub record Laws : Type 0 where
  pub field : IsField
  pub none : (k s : ℕ) → StandForAll k s [] []
  pub fresh : (k s : ℕ) (packets rows : List Packet) (packet : Packet) → All (Fits k s) packets → Fits k s packet → StandForAll k s packets rows
      → IsFresh k packets packet ↔ (take k (remainder_of rows (vector_of packet)) ≢ replicate k 0)
  pub stands : (k s : ℕ) (packets rows : List Packet) (packet row : Packet) → All (Fits k s) packets → Fits k s packet → StandForAll k s packets rows
      → IsRowOf k rows packet row → StandsFor k s packets rows packet row
  pub joins : (k s : ℕ) (packets rows : List Packet) (packet row : Packet) → StandForAll k s packets rows
      → StandsFor k s packets rows packet row → StandForAll k s (packets ++ packet ∷ []) (rows ++ row ∷ [])

-- a packet of two coefficients and one symbol
abbrev small : ℕ → ℕ → ℕ → ℕ → Packet
small g c0 c1 x = record { generation = g; coeffs = c0 ∷ c1 ∷ []; payload = x ∷ [] }

one_vector : (x : ℕ) → IsSymbol x → IsVector 1 (x ∷ [])
one_vector x h = record { count = refl; symbols = All-cons IsSymbol x [] h (All-nil IsSymbol) }

small_fits : (g c0 c1 x : ℕ) → IsSymbol c0 → IsSymbol c1 → IsSymbol x → Fits 2 1 (small g c0 c1 x)
small_fits g c0 c1 x h0 h1 h = record {
  coeffs = record { count = refl; symbols = All-cons IsSymbol c0 (c1 ∷ []) h0 (All-cons IsSymbol c1 [] h1 (All-nil IsSymbol)) };
  payload = one_vector x h;
}

-- a packet that rows leave as it is, and whose first coefficient that is not 0 is 1, is its own row
own_row : IsField → (g c0 c1 x : ℕ) (rows : List Packet) → IsSymbol c0 → IsSymbol c1 → IsSymbol x
    → remainder_of rows (c0 ∷ c1 ∷ x ∷ []) ≡ c0 ∷ c1 ∷ x ∷ [] → slice_index (c0 ∷ c1 ∷ []) (first_nonzero (c0 ∷ c1 ∷ [])) ≡ 1
    → IsRowOf 2 rows (small g c0 c1 x) (small g c0 c1 x)
own_row field g c0 c1 x rows h0 h1 h left one = record {
  inverse = 1;
  inverse_is_symbol = omega arith;
  is_inverse = subst (λ (r : List ℕ). product_of (slice_index (take 2 r) (first_nonzero (take 2 r))) 1 ≡ 1) (sym left)
      (field.product_one (slice_index (c0 ∷ c1 ∷ []) (first_nonzero (c0 ∷ c1 ∷ []))) ∙ one);
  coeffs = subst (λ (r : List ℕ). c0 ∷ c1 ∷ [] ≡ scaled 1 (take 2 r)) (sym left) (λ i. sym (field.one_product c0 h0) i ∷ sym (field.one_product c1 h1) i ∷ []);
  payload = subst (λ (r : List ℕ). x ∷ [] ≡ scaled 1 (drop 2 r)) (sym left) (λ i. sym (field.one_product x h) i ∷ []);
}

-- 0 times a vector adds nothing
left_alone : IsField → (c0 c1 x d0 d1 y : ℕ) → plus_scaled (c0 ∷ c1 ∷ x ∷ []) 0 (d0 ∷ d1 ∷ y ∷ []) ≡ c0 ∷ c1 ∷ x ∷ []
left_alone field c0 c1 x d0 d1 y = let e : (c d : ℕ) → sum_of c (product_of 0 d) ≡ c = (λ c d. ap (λ (z : ℕ). sum_of c z) (field.zero_product d) ∙ field.sum_zero c) in
    λ i. e c0 d0 i ∷ e c1 d1 i ∷ e x y i ∷ []

-- parameters that are small, as they are
abbrev as_small : Parameters → Parameters
as_small p = record { generation = p.generation; k = 2; s = 1; passes = p.passes; equations = p.equations }

is_small : (p : Parameters) → IsSmall p → as_small p ≡ p
is_small p small = λ i. record { generation = p.generation; k = sym small.two i; s = sym small.one i; passes = p.passes; equations = p.equations }

-- a record whose row is its packet, after records that leave it as it is
record_next : Laws → (p : Parameters) → IsSmall p → (before : List (List ℕ)) (region : List ℕ) (c0 c1 x : ℕ) → IsSymbol c0 → IsSymbol c1 → IsSymbol x
    → packet_at (as_small p) region ≡ small p.generation c0 c1 x → row_at (as_small p) region ≡ small p.generation c0 c1 x
    → pivot_in region ≡ first_nonzero (c0 ∷ c1 ∷ []) → slice_index (c0 ∷ c1 ∷ []) (first_nonzero (c0 ∷ c1 ∷ [])) ≡ 1 → c0 ∷ c1 ∷ [] ≢ 0 ∷ 0 ∷ []
    → All (Fits 2 1) (map (packet_at (as_small p)) before) → StandForAll 2 1 (map (packet_at (as_small p)) before) (map (row_at (as_small p)) before)
    → remainder_of (map (row_at (as_small p)) before) (c0 ∷ c1 ∷ x ∷ []) ≡ c0 ∷ c1 ∷ x ∷ [] → IsNextRegion p before region
unfolding IsNextRegion
record_next laws p is before region c0 c1 x h0 h1 h packet row pivot one some fit stand left =
    let q : Parameters = as_small p in
    let front : List Packet = map (packet_at q) before in
    let rows : List Packet = map (row_at q) before in
    let it : Packet = small p.generation c0 c1 x in
    let fits : Fits 2 1 it = small_fits p.generation c0 c1 x h0 h1 h in
    let fresh : IsFresh 2 front it = (laws.fresh 2 1 front rows it fit fits stand).1 (λ e. some (ap (λ (r : List ℕ). take 2 r) (sym left) ∙ e)) in
    let stands : StandsFor 2 1 front rows it it = laws.stands 2 1 front rows it it fit fits stand (own_row laws.field p.generation c0 c1 x rows h0 h1 h left one) in
    let has : HasRecord q before region = record {
      fits = subst (Fits 2 1) (sym packet) fits;
      passes = λ check lt. (let none : p.equations.value.checks ≡ 0 = is.unchecked in absurd (omega arith));
      fresh = subst (λ (t : Packet). IsFresh 2 front t) (sym packet) fresh;
      stands = subst (λ (t : Packet). StandsFor 2 1 front rows (packet_at q region) t) (sym row) (subst (λ (t : Packet). StandsFor 2 1 front rows t it) (sym packet) stands);
      pivot = pivot ∙ ap pivot_of (sym row);
    } in
    subst (λ (r : Parameters). HasRecord r before region) (is_small p is) has

abbrev pub first_words : List ℕ
first_words = 0 ∷ 0 ∷ 281474976710656 ∷ 7017171169396654080 ∷ 281474976710656 ∷ 7017171169396654080 ∷ []

abbrev pub second_words : List ℕ
second_words = 4294967296 ∷ 1 ∷ 4294967296 ∷ 7133701809754865664 ∷ 4294967296 ∷ 7133701809754865664 ∷ []

alone : Laws → (g c0 c1 x : ℕ) → IsSymbol c0 → IsSymbol c1 → IsSymbol x → slice_index (c0 ∷ c1 ∷ []) (first_nonzero (c0 ∷ c1 ∷ [])) ≡ 1
    → StandForAll 2 1 (small g c0 c1 x ∷ []) (small g c0 c1 x ∷ [])
alone laws g c0 c1 x h0 h1 h one = let it : Packet = small g c0 c1 x in
    laws.joins 2 1 [] [] it it (laws.none 2 1)
    (laws.stands 2 1 [] [] it it (All-nil (Fits 2 1)) (small_fits g c0 c1 x h0 h1 h) (laws.none 2 1) (own_row laws.field g c0 c1 x [] h0 h1 h refl one))

pub first_alone : Laws → (p : Parameters) → IsSmall p → IsNextRegion p [] first_words
first_alone laws p is = record_next laws p is [] first_words 1 0 24930 (omega arith) (omega arith) (omega arith) refl refl refl refl (λ e. cc) (All-nil (Fits 2 1)) (laws.none 2 1) refl

pub second_alone : Laws → (p : Parameters) → IsSmall p → IsNextRegion p [] second_words
second_alone laws p is = record_next laws p is [] second_words 0 1 25344 (omega arith) (omega arith) (omega arith) refl refl refl refl (λ e. cc) (All-nil (Fits 2 1)) (laws.none 2 1) refl

pub first_after : Laws → (p : Parameters) → IsSmall p → IsNextRegion p (second_words ∷ []) first_words
first_after laws p is = let g : ℕ = p.generation in
    record_next laws p is (second_words ∷ []) first_words 1 0 24930 (omega arith) (omega arith) (omega arith) refl refl refl refl (λ e. cc)
    (All-cons (Fits 2 1) (small g 0 1 25344) [] (small_fits g 0 1 25344 (omega arith) (omega arith) (omega arith)) (All-nil (Fits 2 1)))
    (alone laws g 0 1 25344 (omega arith) (omega arith) (omega arith) refl)
    (left_alone laws.field 1 0 24930 0 1 25344)

pub second_after : Laws → (p : Parameters) → IsSmall p → IsNextRegion p (first_words ∷ []) second_words
second_after laws p is = let g : ℕ = p.generation in
    record_next laws p is (first_words ∷ []) second_words 0 1 25344 (omega arith) (omega arith) (omega arith) refl refl refl refl (λ e. cc)
    (All-cons (Fits 2 1) (small g 1 0 24930) [] (small_fits g 1 0 24930 (omega arith) (omega arith) (omega arith)) (All-nil (Fits 2 1)))
    (alone laws g 1 0 24930 (omega arith) (omega arith) (omega arith) refl)
    (left_alone laws.field 0 1 25344 1 0 24930)

-- the words of a basis of two records, and what they are read as
abbrev worked : List ℕ
worked = 1 ∷ 2 ∷ (first_words ++ (second_words ++ replicate 12 0))

worked_length : length_of 2 worked ≡ 2
worked_length = refl

worked_records : records_of_words 7 2 1 worked
    ≡ record { caller = 0; call = 0; packet = small 7 1 0 24930 } ∷ record { caller = 1; call = 0; packet = small 7 0 1 25344 } ∷ []
worked_records = refl

worked_rows : rows_of_words 7 2 1 worked ≡ small 7 1 0 24930 ∷ small 7 0 1 25344 ∷ []
worked_rows = refl

worked_pivots : pivots_of_words 2 1 worked ≡ 0 ∷ 1 ∷ []
worked_pivots = refl
