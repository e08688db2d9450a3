-- Symbols packed into words and taken out of them, one word more at a time.
use Rattle.std.proofs.Common.{◌≡◌, ℕ, zero, suc, ◌+◌, ◌-◌, ◌*◌, ◌<◌, ◌≤◌, min, List, [], ◌∷◌, ◌++◌, length, take, drop, get_or, set, sym, refl, ap, ◌∙◌, arith}
use Rattle.std.proofs.lemmas.List.{length-append, length-drop, length-take, length-take-le, take_min, take_more, take_more_set}
use Rattle.std.proofs.lemmas.Slice.{take-put_mid}
use borrow.Rule.Slice.PartMut.{put_mid}
use Rattle.table_rows.specs.Layout.{symbols_in, unpacked_of}

-- the symbols of the word at a place: up to four, cut at the end
pub four_from : (symbols : List ℕ) (at end : ℕ) → end ≡ min (length symbols) (at * 4 + 4) → take (end - at * 4) (drop (at * 4) symbols) ≡ take 4 (drop (4 * at) symbols)
four_from symbols at end is =
    let rest : List ℕ = drop (at * 4) symbols in
    let long : length rest ≡ length symbols - at * 4 = length-drop (at * 4) symbols in
    let few : end - at * 4 ≡ min 4 (length rest) = omega arith in
    let same : at * 4 ≡ 4 * at = omega arith in
    ap (λ (n : ℕ). take n rest) few ∙ (take_min 4 rest ∙ ap (λ (n : ℕ). take 4 (drop n symbols)) same)

-- the first symbols are those of the first words
pub of_first_words : (n m : ℕ) (words : List ℕ) → n ≤ 4 * m → unpacked_of n words ≡ unpacked_of n (take m words)
of_first_words zero m words le = refl
of_first_words (suc n) zero words le = absurd (omega arith)
of_first_words (suc n) (suc m) [] le = refl
of_first_words (suc zero) (suc m) (word ∷ words) le = refl
of_first_words (suc (suc zero)) (suc m) (word ∷ words) le = refl
of_first_words (suc (suc (suc zero))) (suc m) (word ∷ words) le = refl
of_first_words (suc (suc (suc (suc n)))) (suc m) (word ∷ words) le = ap (λ (l : List ℕ). symbols_in word ++ l) (of_first_words n m words (omega arith))

-- what one word more says of symbols
abbrev pub OneMore : Type 0
OneMore = (words : List ℕ) (word n : ℕ) → unpacked_of (4 * length words + n) (words ++ word ∷ []) ≡ unpacked_of (4 * length words) words ++ take n (symbols_in word)

-- the symbols of the word at a place come behind those of the words before it
pub next_symbols : OneMore → (words : List ℕ) (at n : ℕ) → at < length words → n ≤ 4
    → unpacked_of (4 * at + n) words ≡ unpacked_of (4 * at) words ++ take n (symbols_in (get_or words at 0))
next_symbols one words at n lt le =
    let front : List ℕ = take at words in
    let long : length front ≡ at = length-take-le at words (omega arith) in
    let here : unpacked_of (4 * at + n) words ≡ unpacked_of (4 * at + n) (take (at + 1) words) = of_first_words (4 * at + n) (at + 1) words (omega arith) in
    let more : unpacked_of (4 * length front + n) (front ++ get_or words at 0 ∷ []) ≡ unpacked_of (4 * length front) front ++ take n (symbols_in (get_or words at 0)) =
    one front (get_or words at 0) n in
    here ∙ (ap (unpacked_of (4 * at + n)) (take_more words at 0 lt)
    ∙ (ap (λ (i : ℕ). unpacked_of (4 * i + n) (front ++ get_or words at 0 ∷ [])) (sym long)
    ∙ (more ∙ (ap (λ (i : ℕ). unpacked_of (4 * i) front ++ take n (symbols_in (get_or words at 0))) long
    ∙ ap (λ (l : List ℕ). l ++ take n (symbols_in (get_or words at 0))) (sym (of_first_words (4 * at) at words (omega arith)))))))

put_long : (a k : ℕ) (xs ys : List ℕ) → a + k ≤ length xs → length ys ≡ k → length (put_mid a k xs ys) ≡ length xs
put_long a k xs ys le long = simp (length-append, length-take, length-drop) (omega arith)

-- the symbols so far with those of one word more, which were put in behind them
pub unpacked_next : OneMore → (words out now : List ℕ) (at end : ℕ) → at < length words → 4 * at < length out → end ≡ min (length out) (at * 4 + 4)
    → take (min (4 * at) (length out)) out ≡ unpacked_of (min (4 * at) (length out)) words
    → now ≡ take (length (take (end - at * 4) (drop (at * 4) out))) (symbols_in (get_or words at 0))
    → length now ≡ length (take (end - at * 4) (drop (at * 4) out))
    → take (min (4 * (at + 1)) (length (put_mid (at * 4) (end - at * 4) out now))) (put_mid (at * 4) (end - at * 4) out now)
    ≡ unpacked_of (min (4 * (at + 1)) (length (put_mid (at * 4) (end - at * 4) out now))) words
unpacked_next one words out now at end lt within is so_far now_is long =
    let n : ℕ = end - at * 4 in
    let rest : List ℕ = drop (at * 4) out in
    let rest_long : length rest ≡ length out - at * 4 = length-drop (at * 4) out in
    let part_long : length (take n rest) ≡ n = length-take-le n rest (omega arith) in
    let kept : length (put_mid (at * 4) n out now) ≡ length out = put_long (at * 4) n out now (omega arith) (long ∙ part_long) in
    let before : min (4 * at) (length out) ≡ 4 * at = omega arith in
    let same : at * 4 ≡ 4 * at = omega arith in
    let after : min (4 * (at + 1)) (length (put_mid (at * 4) n out now)) ≡ 4 * at + n = omega arith in
    let so_far' : take (4 * at) out ≡ unpacked_of (4 * at) words = ap (λ (i : ℕ). take i out) (sym before) ∙ (so_far ∙ ap (λ (i : ℕ). unpacked_of i words) before) in
    let put : take (4 * at + n) (put_mid (at * 4) n out now) ≡ take (at * 4) out ++ now = take-put_mid (at * 4) n out now (4 * at + n) (omega arith) (omega arith) in
    let now' : now ≡ take n (symbols_in (get_or words at 0)) = now_is ∙ ap (λ (i : ℕ). take i (symbols_in (get_or words at 0))) part_long in
    ap (λ (i : ℕ). take i (put_mid (at * 4) n out now)) after
    ∙ (put ∙ ((λ i. take (same i) out ++ now' i)
    ∙ (ap (λ (l : List ℕ). l ++ take n (symbols_in (get_or words at 0))) so_far'
    ∙ (sym (next_symbols one words at n lt (omega arith)) ∙ ap (λ (i : ℕ). unpacked_of i words) (sym after)))))

-- a word more that is that of another list
pub same_more : (words before : List ℕ) (place word : ℕ) → place < length words → place < length before → take place words ≡ take place before
    → word ≡ get_or before place 0 → take (place + 1) (set words place word) ≡ take (place + 1) before
same_more words before place word lt lt' so_far here = take_more_set words place word lt
    ∙ ((λ i. so_far i ++ here i ∷ []) ∙ sym (take_more before place 0 lt'))
