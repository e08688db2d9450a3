-- The laws of combinations, spans and ranks, for all lists of vectors.
-- n: the number of symbols of each vector. k, s: the numbers of coefficients and of payload symbols of each packet.
-- c: a symbol. r, q: ranks.
use Rattle.std.specs.Prelude.{◌≡◌, ◌≢◌, ◌↔◌, ◌+◌, ◌<◌, ◌≤◌, ℕ, suc, List, [], ◌∷◌, ◌++◌, length, map, replicate, take, slice_index_or, slice_set}
use Rattle.std.specs.List.{All}
use Rattle.gf16.specs.Field.{IsSymbol}
use Rattle.gf16.specs.Sums.{plus_scaled, scaled}
use Rattle.linear_spec.specs.declared.packet.Packet.{Packet}
use Rattle.linear_spec.specs.Symbols.{AreSymbols, IsVector}
use Rattle.linear_spec.specs.Combination.{combination_of}
use Rattle.linear_spec.specs.Packet.{Fits, IsTrueTo, vectors_of, coefficients_of, payloads_of}
use Rattle.linear_spec.specs.Span.{InSpan, HaveOneSpan, HasRank}

-- the laws of combinations, for every list of vectors and of packets that fit
pub record CombinationLaws : Type 0 where
  -- of no vectors: the zero vector
  pub none : (n : ℕ) (coefficients : List ℕ) → combination_of n coefficients [] ≡ replicate n 0
  -- a first vector adds its multiple
  pub first : (n c : ℕ) (coefficients vector : List ℕ) (vectors : List (List ℕ))
      → combination_of n (c ∷ coefficients) (vector ∷ vectors) ≡ plus_scaled (combination_of n coefficients vectors) c vector
  -- and so does a last one
  pub last : (n c : ℕ) (coefficients vector : List ℕ) (vectors : List (List ℕ)) → length coefficients ≡ length vectors
      → combination_of n (coefficients ++ c ∷ []) (vectors ++ vector ∷ []) ≡ plus_scaled (combination_of n coefficients vectors) c vector
  -- it is a vector of n symbols
  pub is_vector : (n : ℕ) (coefficients : List ℕ) (vectors : List (List ℕ)) → AreSymbols coefficients → All (IsVector n) vectors
      → IsVector n (combination_of n coefficients vectors)
  -- of packets as vectors: that of their coefficients, then that of their payloads
  pub packets : (k s : ℕ) (coefficients : List ℕ) (packets : List Packet) → All (Fits k s) packets
      → combination_of (k + s) coefficients (vectors_of packets)
      ≡ combination_of k coefficients (coefficients_of packets) ++ combination_of s coefficients (payloads_of packets)
  -- of packets true to blocks: true to them too
  pub truth : (k s : ℕ) (coefficients : List ℕ) (packets : List Packet) (blocks : List (List ℕ)) → AreSymbols coefficients
      → length coefficients ≡ length packets → All (Fits k s) packets → All (IsTrueTo s blocks) packets
      → length blocks ≡ k → All (IsVector s) blocks
      → combination_of s (combination_of k coefficients (coefficients_of packets)) blocks ≡ combination_of s coefficients (payloads_of packets)
  -- with a combination as its coefficients: the combination of those with each
  pub nested : (k n : ℕ) (coefficients : List ℕ) (lists vectors : List (List ℕ)) → AreSymbols coefficients → length coefficients ≡ length lists
      → All (IsVector k) lists → length vectors ≡ k → All (IsVector n) vectors
      → combination_of n (combination_of k coefficients lists) vectors
      ≡ combination_of n coefficients (map (λ list. combination_of n list vectors) lists)
  -- it is linear in its coefficients
  pub linear : (n c : ℕ) (first second : List ℕ) (vectors : List (List ℕ)) → All (IsVector n) vectors → IsSymbol c
      → length first ≡ length vectors → length second ≡ length vectors
      → combination_of n (plus_scaled first c second) vectors ≡ plus_scaled (combination_of n first vectors) c (combination_of n second vectors)

-- the laws of the span, for every list of vectors of n symbols
pub record SpanLaws : Type 0 where
  -- it holds vectors of n symbols
  pub is_vector : (n : ℕ) (vectors : List (List ℕ)) (vector : List ℕ) → All (IsVector n) vectors → InSpan n vectors vector → IsVector n vector
  -- it holds the zero vector
  pub zero : (n : ℕ) (vectors : List (List ℕ)) → All (IsVector n) vectors → InSpan n vectors (replicate n 0)
  -- that of no vectors holds no other
  pub none : (n : ℕ) (vector : List ℕ) → InSpan n [] vector → vector ≡ replicate n 0
  -- it is closed under sums of one and a multiple of another
  pub sum : (n c : ℕ) (vectors : List (List ℕ)) (a b : List ℕ) → All (IsVector n) vectors → IsSymbol c
      → InSpan n vectors a → InSpan n vectors b → InSpan n vectors (plus_scaled a c b)
  -- and under multiples
  pub multiple : (n c : ℕ) (vectors : List (List ℕ)) (a : List ℕ) → All (IsVector n) vectors → IsSymbol c
      → InSpan n vectors a → InSpan n vectors (scaled c a)
  -- it holds each vector of the list
  pub member : (n : ℕ) (front back : List (List ℕ)) (vector : List ℕ) → All (IsVector n) (front ++ vector ∷ back)
      → InSpan n (front ++ vector ∷ back) vector
  -- more vectors span no less
  pub grows : (n : ℕ) (vectors more : List (List ℕ)) (vector : List ℕ) → All (IsVector n) (vectors ++ more)
      → InSpan n vectors vector → InSpan n (vectors ++ more) vector
  -- vectors of a span span no more than it
  pub closed : (n : ℕ) (vectors others : List (List ℕ)) (vector : List ℕ) → All (IsVector n) vectors → All (IsVector n) others
      → All (InSpan n others) vectors → InSpan n vectors vector → InSpan n others vector
  -- with a last vector: what some multiple of it takes into the span of the others
  pub last : (n : ℕ) (vectors : List (List ℕ)) (more vector : List ℕ) → All (IsVector n) vectors → IsVector n more → IsVector n vector
      → InSpan n (vectors ++ more ∷ []) vector ↔ ((c : ℕ) × IsSymbol c × InSpan n vectors (plus_scaled vector c more))
  -- to put a row in the place of a vector leaves the span as it is, where the row and some multiple of that vector, not 0
  -- times it, add up to a vector of the span of those before it
  pub replace : (n multiple at : ℕ) (vectors : List (List ℕ)) (row : List ℕ) → All (IsVector n) vectors → IsVector n row
      → at < length vectors → IsSymbol multiple → multiple ≢ 0
      → InSpan n (take at vectors) (plus_scaled row multiple (slice_index_or vectors at []))
      → HaveOneSpan n vectors (slice_set vectors at row)
  -- the first symbols of a vector of the span follow from the first symbols of the list's
  pub coefficients : (k s : ℕ) (vectors : List (List ℕ)) (vector : List ℕ) → All (IsVector (k + s)) vectors
      → InSpan (k + s) vectors vector → InSpan k (map (take k) vectors) (take k vector)

-- every list of vectors of n symbols has exactly one rank
pub record RankLaws : Type 0 where
  -- at least one
  pub some : (n : ℕ) (vectors : List (List ℕ)) → All (IsVector n) vectors → (r : ℕ) × HasRank n vectors r
  -- and no other
  pub one : (n : ℕ) (vectors : List (List ℕ)) (r q : ℕ) → HasRank n vectors r → HasRank n vectors q → r ≡ q
  -- it is at most the number of vectors
  pub at_most_count : (n : ℕ) (vectors : List (List ℕ)) (r : ℕ) → HasRank n vectors r → r ≤ length vectors
  -- and at most n
  pub at_most_symbols : (n : ℕ) (vectors : List (List ℕ)) (r : ℕ) → All (IsVector n) vectors → HasRank n vectors r → r ≤ n
  -- a vector of the span leaves it as it is, and any other makes it one greater
  pub more : (n r : ℕ) (vectors : List (List ℕ)) (vector : List ℕ) → HasRank n vectors r
      → (InSpan n vectors vector → HasRank n (vectors ++ vector ∷ []) r)
      × ((¬ InSpan n vectors vector) → HasRank n (vectors ++ vector ∷ []) (suc r))
  -- lists of one span have one rank
  pub one_span : (n r : ℕ) (vectors others : List (List ℕ)) → All (IsVector n) vectors → All (IsVector n) others
      → HaveOneSpan n vectors others → HasRank n vectors r → HasRank n others r

-- what a rank as large as can be tells
pub record FullRankLaws : Type 0 where
  -- vectors of n symbols and rank n span every vector of n symbols
  pub spans : (n : ℕ) (vectors : List (List ℕ)) (vector : List ℕ) → All (IsVector n) vectors → HasRank n vectors n
      → IsVector n vector → InSpan n vectors vector
  -- vectors that span all of these have rank n
  pub full : (n : ℕ) (vectors : List (List ℕ)) → All (IsVector n) vectors
      → ((vector : List ℕ) → IsVector n vector → InSpan n vectors vector) → HasRank n vectors n
  -- more vectors leave rank n as it is
  pub more : (n : ℕ) (front back : List (List ℕ)) → All (IsVector n) (front ++ back) → HasRank n front n → HasRank n (front ++ back) n
  -- where the rank is the number of the vectors, none lies in the span of those before it
  pub fresh : (n at : ℕ) (vectors : List (List ℕ)) → HasRank n vectors (length vectors) → at < length vectors
      → ¬ InSpan n (take at vectors) (slice_index_or vectors at [])
