-- Symbols that are packed come back, four by four; and so a record comes back from the words of its region.
use Rattle.std.proofs.Common.{◌≡◌, ℕ, zero, suc, ◌+◌, ◌-◌, ◌*◌, ◌/◌, ◌%◌, ◌^◌, ◌<◌, ◌≤◌, List, [], ◌∷◌, ◌++◌, length, map, take, drop, get_or, sym, refl, ap, ◌∙◌, subst, arith}
use Rattle.std.specs.List.{flat_map, range_with_len}
use Rattle.std.proofs.lemmas.List.{length-drop, get_or-drop, length-append, append-nil}
use Rattle.std.proofs.Math.Seq.{drop-append_seam}
use Rattle.std.proofs.lemmas.List.FromFn.{get_or-map-range_with_len, length-map-range_with_len}
use Rattle.gf16.specs.Field.{IsSymbol}
use Rattle.linear_spec.specs.Symbols.{AreSymbols}
use Rattle.linear_spec.specs.declared.packet.Packet.{Packet}
use Rattle.linear_spec.specs.declared.record.Record.{Record}
use Rattle.linear_spec.specs.Packet.{Fits}
use Rattle.table_rows.specs.Layout.{call_in, caller_in, packed_of, packed_words_of, packet_in, region_for, region_length, row_in, symbols_in, unpacked_of, words_for}

four : (a b c d : ℕ) → a < 2 ^ 16 → b < 2 ^ 16 → c < 2 ^ 16 → d < 2 ^ 16
    → symbols_in (a * 2 ^ 48 + b * 2 ^ 32 + c * 2 ^ 16 + d) ≡ a ∷ b ∷ c ∷ d ∷ []
four a b c d ha hb hc hd =
    let w : ℕ = a * 2 ^ 48 + b * 2 ^ 32 + c * 2 ^ 16 + d in
    let e0 : w / 2 ^ 48 % 2 ^ 16 ≡ a = omega arith in
    let e1 : w / 2 ^ 32 % 2 ^ 16 ≡ b = omega arith in
    let e2 : w / 2 ^ 16 % 2 ^ 16 ≡ c = omega arith in
    let e3 : w % 2 ^ 16 ≡ d = omega arith in
    λ i. e0 i ∷ e1 i ∷ e2 i ∷ e3 i ∷ []

drop_more : (m n : ℕ) (l : List ℕ) → drop m (drop n l) ≡ drop (n + m) l
drop_more m zero l = let e : m ≡ zero + m = omega arith in ap (λ (i : ℕ). drop i l) e
drop_more zero (suc n) [] = let e : suc n ≡ suc n + zero = omega arith in ap (λ (i : ℕ). drop i []) e
drop_more (suc m) (suc n) [] = let e : suc (n + suc m) ≡ suc n + suc m = omega arith in ap (λ (i : ℕ). drop i []) e
drop_more m (suc n) (x ∷ xs) = let e : suc (n + m) ≡ suc n + m = omega arith in drop_more m n xs ∙ ap (λ (i : ℕ). drop i (x ∷ xs)) e

none_left : (l m : List ℕ) → length l ≤ 0 → take (length l) m ≡ l
none_left [] m h = refl
none_left (x ∷ xs) m h = absurd (omega arith)

sum_four : (start : ℕ) → 4 * start + 4 ≡ 4 * (start + 1)
sum_four start = omega arith

-- the words of the symbols from the word of this number on
abbrev words_from : List ℕ → ℕ → ℕ → List ℕ
words_from symbols start count = map (λ at. packed_of (drop (4 * at) symbols)) (range_with_len start count)

one_word : (rest : List ℕ) (left : List ℕ) → AreSymbols left → (more : List ℕ)
    → (take (length (drop 4 left)) (flat_map symbols_in more) ≡ drop 4 left)
    → take (length left) (symbols_in (packed_of left) ++ flat_map symbols_in more) ≡ left
one_word rest [] are more e = refl
one_word rest (a ∷ []) are more e = let f = four a 0 0 0 (are 0 0 (omega arith)) (omega arith) (omega arith) (omega arith) in
    ap (λ (l : List ℕ). take 1 (l ++ flat_map symbols_in more)) f
one_word rest (a ∷ b ∷ []) are more e = let f = four a b 0 0 (are 0 0 (omega arith)) (are 1 0 (omega arith)) (omega arith) (omega arith) in
    ap (λ (l : List ℕ). take 2 (l ++ flat_map symbols_in more)) f
one_word rest (a ∷ b ∷ c ∷ []) are more e = let f = four a b c 0 (are 0 0 (omega arith)) (are 1 0 (omega arith)) (are 2 0 (omega arith)) (omega arith) in
    ap (λ (l : List ℕ). take 3 (l ++ flat_map symbols_in more)) f
one_word rest (a ∷ b ∷ c ∷ d ∷ left) are more e = let f = four a b c d (are 0 0 (omega arith)) (are 1 0 (omega arith)) (are 2 0 (omega arith)) (are 3 0 (omega arith)) in
    ap (λ (l : List ℕ). take (suc (suc (suc (suc (length left))))) (l ++ flat_map symbols_in more)) f ∙ ap (λ (l : List ℕ). a ∷ b ∷ c ∷ d ∷ l) e

all_left : (n : ℕ) (symbols : List ℕ) → AreSymbols symbols → AreSymbols (drop n symbols)
all_left n symbols are = λ k d lt. let long : length (drop n symbols) ≡ length symbols - n = length-drop n symbols in
    subst IsSymbol (sym (get_or-drop n symbols k d)) (are (n + k) d (omega arith))

back_from : (symbols rest : List ℕ) (start count : ℕ) → AreSymbols symbols → length (drop (4 * start) symbols) ≤ 4 * count
    → take (length (drop (4 * start) symbols)) (flat_map symbols_in (words_from symbols start count ++ rest)) ≡ drop (4 * start) symbols
back_from symbols rest start zero are le = none_left (drop (4 * start) symbols) (flat_map symbols_in rest) (omega arith)
back_from symbols rest start (suc count) are le =
    let left : List ℕ = drop (4 * start) symbols in
    let next : drop 4 left ≡ drop (4 * (start + 1)) symbols = drop_more 4 (4 * start) symbols ∙ ap (λ (n : ℕ). drop n symbols) (sum_four start) in
    let shorter : length (drop 4 left) ≡ length left - 4 = length-drop 4 left in
    let shorter' : length (drop (4 * (start + 1)) symbols) ≤ 4 * count = subst (λ (l : List ℕ). length l ≤ 4 * count) next (omega arith) in
    let more = back_from symbols rest (start + 1) count are shorter' in
    one_word rest left (all_left (4 * start) symbols are) (words_from symbols (start + 1) count ++ rest)
    (subst (λ (l : List ℕ). take (length l) (flat_map symbols_in (words_from symbols (start + 1) count ++ rest)) ≡ l) (sym next) more)

pub packed_long : (symbols : List ℕ) → length (packed_words_of symbols) ≡ words_for (length symbols)
packed_long symbols = length-map-range_with_len (λ at. packed_of (drop (4 * at) symbols)) 0 (words_for (length symbols))

-- symbols that are packed, with any words behind them, come back
pub unpacked_packed : (n : ℕ) (symbols rest : List ℕ) → AreSymbols symbols → length symbols ≡ n → unpacked_of n (packed_words_of symbols ++ rest) ≡ symbols
unpacked_packed n symbols rest are long = ap (λ (m : ℕ). take m (flat_map symbols_in (packed_words_of symbols ++ rest))) (sym long)
    ∙ back_from symbols rest 0 (words_for (length symbols)) are (omega arith)

-- the word of symbols has no more of them than four
of_four : (symbols : List ℕ) → packed_of symbols ≡ packed_of (take 4 symbols)
of_four [] = refl
of_four (a ∷ []) = refl
of_four (a ∷ b ∷ []) = refl
of_four (a ∷ b ∷ c ∷ []) = refl
of_four (a ∷ b ∷ c ∷ d ∷ symbols) = refl

pub packed_word : (symbols : List ℕ) (at : ℕ) → at < words_for (length symbols) → get_or (packed_words_of symbols) at 0 ≡ packed_of (take 4 (drop (4 * at) symbols))
packed_word symbols at lt = get_or-map-range_with_len (λ n. packed_of (drop (4 * n) symbols)) 0 (words_for (length symbols)) at at 0 lt (omega arith)
    ∙ of_four (drop (4 * at) symbols)

more_from : (words : List ℕ) (word n before now : ℕ) → before ≡ 4 * length words → now ≡ before + n
    → take now (flat_map symbols_in (words ++ word ∷ [])) ≡ take before (flat_map symbols_in words) ++ take n (symbols_in word)
more_from [] word n before now is sum =
    let e : now ≡ n = omega arith in
    let f : 0 ≡ before = omega arith in
    ap (λ (m : ℕ). take m (symbols_in word)) e ∙ ap (λ (m : ℕ). take m [] ++ take n (symbols_in word)) f
more_from (first ∷ words) word n before now is sum =
    let rest : ℕ = 4 * length words in
    let e : now ≡ suc (suc (suc (suc (rest + n)))) = omega arith in
    let f : suc (suc (suc (suc rest))) ≡ before = omega arith in
    ap (λ (m : ℕ). take m (flat_map symbols_in ((first ∷ words) ++ word ∷ []))) e
    ∙ (ap (λ (l : List ℕ). symbols_in first ++ l) (more_from words word n rest (rest + n) refl refl)
    ∙ ap (λ (m : ℕ). take m (flat_map symbols_in (first ∷ words)) ++ take n (symbols_in word)) f)

-- one word more gives its first symbols more
pub unpacked_more : (words : List ℕ) (word n : ℕ) → unpacked_of (4 * length words + n) (words ++ word ∷ []) ≡ unpacked_of (4 * length words) words ++ take n (symbols_in word)
unpacked_more words word n = more_from words word n (4 * length words) (4 * length words + n) refl refl

module _ (r : Record) (pivot : ℕ) (row : Packet) (small : r.call < 2 ^ 32) where
  pub region_caller : caller_in (region_for r pivot row) ≡ r.caller
  region_caller = omega arith

  pub region_call : call_in (region_for r pivot row) ≡ r.call
  region_call = omega arith

-- the words of a region, part by part
module _ (k s : ℕ) (r : Record) (pivot : ℕ) (row : Packet) (fits : Fits k s r.packet) (row_fits : Fits k s row) where
  abbrev region : List ℕ
  region = region_for r pivot row

  abbrev coeffs : List ℕ
  coeffs = packed_words_of r.packet.coeffs

  abbrev payload : List ℕ
  payload = packed_words_of r.packet.payload

  abbrev row_coeffs : List ℕ
  row_coeffs = packed_words_of row.coeffs

  abbrev row_payload : List ℕ
  row_payload = packed_words_of row.payload

  long_of : (n : ℕ) (symbols : List ℕ) → length symbols ≡ n → length (packed_words_of symbols) ≡ words_for n
  long_of n symbols e = packed_long symbols ∙ ap words_for e

  -- what comes after a list of this length
  after : (n : ℕ) (front back : List ℕ) → length front ≡ n → drop n (front ++ back) ≡ back
  after n front back e = ap (λ (m : ℕ). drop m (front ++ back)) (sym e) ∙ drop-append_seam front back

  from_second : (n : ℕ) → drop (2 + n) region ≡ drop n (coeffs ++ (payload ++ (row_coeffs ++ row_payload)))
  from_second n = let e : 2 + n ≡ suc (suc n) = omega arith in ap (λ (m : ℕ). drop m region) e

  payload_there : drop (2 + words_for k) region ≡ payload ++ (row_coeffs ++ row_payload)
  payload_there = from_second (words_for k) ∙ after (words_for k) coeffs (payload ++ (row_coeffs ++ row_payload)) (long_of k r.packet.coeffs fits.coeffs.count)

  row_there : drop (2 + words_for k + words_for s) region ≡ row_coeffs ++ row_payload
  row_there = sym (drop_more (words_for s) (2 + words_for k) region) ∙ (ap (λ (l : List ℕ). drop (words_for s) l) payload_there
      ∙ after (words_for s) payload (row_coeffs ++ row_payload) (long_of s r.packet.payload fits.payload.count))

  row_payload_there : drop (2 + words_for k + words_for s + words_for k) region ≡ row_payload ++ []
  row_payload_there = sym (drop_more (words_for k) (2 + words_for k + words_for s) region) ∙ (ap (λ (l : List ℕ). drop (words_for k) l) row_there
      ∙ (after (words_for k) row_coeffs row_payload (long_of k row.coeffs row_fits.coeffs.count) ∙ sym (append-nil row_payload)))

  pub region_long : length region ≡ region_length k s
  region_long =
      let a : length coeffs ≡ words_for k = long_of k r.packet.coeffs fits.coeffs.count in
      let b : length payload ≡ words_for s = long_of s r.packet.payload fits.payload.count in
      let c : length row_coeffs ≡ words_for k = long_of k row.coeffs row_fits.coeffs.count in
      let d : length row_payload ≡ words_for s = long_of s row.payload row_fits.payload.count in
      let e : length (row_coeffs ++ row_payload) ≡ length row_coeffs + length row_payload = length-append row_coeffs row_payload in
      let f : length (payload ++ (row_coeffs ++ row_payload)) ≡ length payload + length (row_coeffs ++ row_payload) = length-append payload (row_coeffs ++ row_payload) in
      let g : length (coeffs ++ (payload ++ (row_coeffs ++ row_payload))) ≡ length coeffs + length (payload ++ (row_coeffs ++ row_payload)) =
      length-append coeffs (payload ++ (row_coeffs ++ row_payload)) in
      omega arith

  pub region_packet : (generation : ℕ) → packet_in generation k s region ≡ record { generation = generation; coeffs = r.packet.coeffs; payload = r.packet.payload }
  region_packet generation =
      let c : unpacked_of k (drop 2 region) ≡ r.packet.coeffs = unpacked_packed k r.packet.coeffs (payload ++ (row_coeffs ++ row_payload)) fits.coeffs.symbols fits.coeffs.count in
      let d : unpacked_of s (drop (2 + words_for k) region) ≡ r.packet.payload = ap (unpacked_of s) payload_there
      ∙ unpacked_packed s r.packet.payload (row_coeffs ++ row_payload) fits.payload.symbols fits.payload.count in
      λ i. record { generation = generation; coeffs = c i; payload = d i }

  pub region_row : (generation : ℕ) → row_in generation k s region ≡ record { generation = generation; coeffs = row.coeffs; payload = row.payload }
  region_row generation =
      let c : unpacked_of k (drop (2 + words_for k + words_for s) region) ≡ row.coeffs = ap (unpacked_of k) row_there
      ∙ unpacked_packed k row.coeffs row_payload row_fits.coeffs.symbols row_fits.coeffs.count in
      let d : unpacked_of s (drop (2 + words_for k + words_for s + words_for k) region) ≡ row.payload = ap (unpacked_of s) row_payload_there
      ∙ unpacked_packed s row.payload [] row_fits.payload.symbols row_fits.payload.count in
      λ i. record { generation = generation; coeffs = c i; payload = d i }
