-- What a caller knows is sound: its olds are parts of its front, what it read are the words of the log, and these are good.
use Rattle.std.proofs.Common.{◌≡◌, ◌≢◌, ℕ, zero, suc, ◌+◌, ◌<◌, ◌≤◌, List, [], ◌∷◌, ◌++◌, length, take, drop, get_or, sym, refl, ap, ◌∙◌, subst, arith, eq-eqb}
use Rattle.std.specs.Prelude.{Bool, Option, Some, None, All, IsSome, true, false, cond, ◌==◌, unwrap_or}
use Rattle.std.proofs.lemmas.List.{get_or-append-add, length-append, length-map, ext_get_or, get_or-take, get_or-map, length-take-le, take-append-drop, append-nil, get_or_default}
use Rattle.std.proofs.lemmas.List.Elements.{All-cons, All-nil}
use Rattle.std.proofs.Math.Nat.{lt_of_not-le}
use Rattle.table_rows.specs.declared.view.Parameters.{Parameters}
use Rattle.table_rows.specs.declared.view.Front.{Front}
use Rattle.table_rows.specs.declared.view.Sight.{Sight}
use Rattle.table_rows.specs.declared.view.CallerView.{CallerView}
use Rattle.table_rows.specs.Layout.{caller_in, call_in}
use Rattle.table_rows.specs.Good.{IsGood, IsNextRegion, offers_from, offers_of}
use Rattle.table_rows.specs.Views.{at_place, width_of, words_of_row, words_read, IsWhole, IsReadWhole}
use Rattle.table_rows.specs.Steps.{IsSight, IsSoundView}
use Rattle.table_rows.specs.Rule.{World, StandsIn, AreCounted, CallerKnows}
use Rattle.table_rows.proofs.Fronts.{Row}
use Rattle.table_rows.proofs.Standing.{known_at, known_length}

pub some_of : (o : Option ℕ) → IsSome o → (x : ℕ) × (o ≡ Some x)
some_of None e = cc
some_of (Some x) e = (x, refl)

row_is : (row : Row) (region : List ℕ) → length row ≡ length region → IsWhole row
    → ((place word : ℕ) → at_place row place ≡ Some word → word ≡ get_or region place 0) → words_of_row row ≡ region
row_is row region long whole agrees = ext_get_or 0 (words_of_row row) region (length-map row (λ (o : Option ℕ). unwrap_or o 0) ∙ long)
    (λ i h. let lt : i < length row = subst (λ (n : ℕ). i < n) (length-map row (λ (o : Option ℕ). unwrap_or o 0)) h in
    let x = some_of (get_or row i None) (whole i None lt) in
    get_or-map (λ (o : Option ℕ). unwrap_or o 0) row i None 0 lt ∙ (ap (λ (o : Option ℕ). unwrap_or o 0) x.1 ∙ agrees i x.0 x.1))

pub take_take : {X : Type 0} (i n : ℕ) (l : List X) → i ≤ n → take i (take n l) ≡ take i l
take_take zero n l h = refl
take_take (suc i) zero l h = absurd (omega arith)
take_take (suc i) (suc n) [] h = refl
take_take (suc i) (suc n) (x ∷ xs) h = ap (λ (t : List _). x ∷ t) (take_take i n xs (omega arith))

pub good_front : (p : Parameters) (log : List (List ℕ)) (n : ℕ) → n ≤ length log → IsGood p log → IsGood p (take n log)
good_front p log n h good = λ i lt. let small : i < n = subst (λ (m : ℕ). i < m) (length-take-le n log h) lt in
    subst (λ (t : List (List ℕ)). IsNextRegion p t (get_or (take n log) i [])) (sym (take_take i n log (omega arith)))
    (subst (λ (r : List ℕ). IsNextRegion p (take i log) r) (sym (get_or-take n log i [] small)) (good i (omega arith)))

pub offers_append : (number n : ℕ) (xs ys : List (List ℕ)) → offers_from number n (xs ++ ys) ≡ offers_from number n xs ++ offers_from number (n + length xs) ys
offers_append number n [] ys = ap (λ (m : ℕ). offers_from number m ys) (omega arith)
offers_append number n (x ∷ xs) ys =
    let rest : offers_from number (n + 1) (xs ++ ys) ≡ offers_from number (n + 1) xs ++ offers_from number (n + length (x ∷ xs)) ys =
    offers_append number (n + 1) xs ys ∙ ap (λ (m : ℕ). offers_from number (n + 1) xs ++ offers_from number m ys) (omega arith) in
    elim (caller_in x == number) as (λ b. cond b ((n, call_in x) ∷ offers_from number (n + 1) (xs ++ ys)) (offers_from number (n + 1) (xs ++ ys))
    ≡ cond b ((n, call_in x) ∷ offers_from number (n + 1) xs) (offers_from number (n + 1) xs) ++ offers_from number (n + length (x ∷ xs)) ys)
    [ true ↦ ap (λ (t : List (ℕ × ℕ)). (n, call_in x) ∷ t) rest | false ↦ rest ]

offers_late : (number n m : ℕ) (ys : List (List ℕ)) → m ≤ n → All (λ offer. m ≤ offer.0) (offers_from number n ys)
offers_late number n m [] h = All-nil (λ offer. m ≤ offer.0)
offers_late number n m (y ∷ ys) h =
    let rest : All (λ offer. m ≤ offer.0) (offers_from number (n + 1) ys) = offers_late number (n + 1) m ys (omega arith) in
    elim (caller_in y == number) as (λ b. All (λ offer. m ≤ offer.0) (cond b ((n, call_in y) ∷ offers_from number (n + 1) ys) (offers_from number (n + 1) ys)))
    [ true ↦ All-cons (λ offer. m ≤ offer.0) (n, call_in y) (offers_from number (n + 1) ys) h rest | false ↦ rest ]

none_left : (xs ys : List (ℕ × ℕ)) (m : ℕ) → All (λ offer. offer.0 < m) (xs ++ ys) → All (λ offer. m ≤ offer.0) ys → ys ≡ []
none_left xs [] m below above = refl
none_left xs (y ∷ ys) m below above =
    let long : length (xs ++ y ∷ ys) ≡ length xs + length (y ∷ ys) = length-append xs (y ∷ ys) in
    let lt : length xs + 0 < length (xs ++ y ∷ ys) = omega arith in
    let there : get_or (xs ++ y ∷ ys) (length xs + 0) y ≡ y = get_or-append-add xs (y ∷ ys) 0 y in
    let low : y.0 < m = subst (λ (o : ℕ × ℕ). o.0 < m) there (below (length xs + 0) y lt) in
    let high : m ≤ y.0 = above 0 y (omega arith) in absurd (omega arith)

-- the offers whose positions lie in a front are those of the front
pub offers_in_front : (number m : ℕ) (log : List (List ℕ)) (own : List (ℕ × ℕ)) → m ≤ length log → own ≡ offers_of number log → All (λ offer. offer.0 < m) own
    → own ≡ offers_of number (take m log)
offers_in_front number m log own h is below =
    let front : List (List ℕ) = take m log in
    let back : List (List ℕ) = drop m log in
    let cut : own ≡ offers_of number front ++ offers_from number (0 + length front) back =
    is ∙ (ap (λ (l : List (List ℕ)). offers_of number l) (sym (take-append-drop m log)) ∙ offers_append number 0 front back) in
    let long : length front ≡ m = length-take-le m log h in
    let late : All (λ offer. m ≤ offer.0) (offers_from number (0 + length front) back) = offers_late number (0 + length front) m back (omega arith) in
    let nil : offers_from number (0 + length front) back ≡ [] = none_left (offers_of number front) (offers_from number (0 + length front) back) m (subst (λ (l : List (ℕ × ℕ)). All (λ offer. offer.0 < m) l) cut below) late in
    cut ∙ (ap (λ (l : List (ℕ × ℕ)). offers_of number front ++ l) nil ∙ append-nil (offers_of number front))

-- regions with no offers of a number do not name it
not_named : (number n : ℕ) (log : List (List ℕ)) → offers_from number n log ≡ [] → (i : ℕ) (d : List ℕ) → i < length log → caller_in (get_or log i d) ≢ number
not_named number n [] e i d lt = λ is. omega arith
not_named number n (x ∷ xs) e zero d lt = λ is.
    let one : cond true ((n, call_in x) ∷ offers_from number (n + 1) xs) (offers_from number (n + 1) xs) ≡ [] =
    subst (λ (b : Bool). cond b ((n, call_in x) ∷ offers_from number (n + 1) xs) (offers_from number (n + 1) xs) ≡ []) (eq-eqb (caller_in x) number is) e in
    let none : length ((n, call_in x) ∷ offers_from number (n + 1) xs) ≡ 0 = ap (λ (l : List (ℕ × ℕ)). length l) one in omega arith
not_named number n (x ∷ xs) e (suc i) d lt =
    let rest : offers_from number (n + 1) xs ≡ [] = (elim (caller_in x == number)
    as (λ b. cond b ((n, call_in x) ∷ offers_from number (n + 1) xs) (offers_from number (n + 1) xs) ≡ [] → offers_from number (n + 1) xs ≡ [])
    [ true ↦ λ f. (let none : length ((n, call_in x) ∷ offers_from number (n + 1) xs) ≡ 0 = ap (λ (l : List (ℕ × ℕ)). length l) f in absurd (omega arith)) | false ↦ λ f. f ]) e in
    not_named number (n + 1) xs rest i d (omega arith)

module _ (p : Parameters) (w : World) (counted : AreCounted p w) where
  -- each region of a front of the log names a caller whose number was given
  callers_given : (n : ℕ) → n ≤ length w.log → All (λ region. caller_in region < p.passes) (take n w.log)
  callers_given n le = λ i d lt.
      let small : i < n = subst (λ (m : ℕ). i < m) (length-take-le n w.log le) lt in
      let given : length w.joined ≤ p.passes = counted.given in
      subst (λ (r : List ℕ). caller_in r < p.passes) (sym (get_or-take n w.log i d small))
      (lt_of_not-le (λ past. not_named (caller_in (get_or w.log i d)) 0 w.log (counted.silent (caller_in (get_or w.log i d)) (omega arith)) i d (omega arith) refl))

  -- a front that was read whole has the first words of the log
  pub front_is : (front : Front) → StandsIn p w front → IsReadWhole front → words_read front ≡ take (length front.known) w.log
  front_is front stands whole =
      let short : length front.known ≤ length w.dir = known_length p w front stands in
      let rows : length front.read ≡ length front.known = stands.rows in
      let logged : length w.log ≡ length w.dir = counted.logged in
      let long : length (take (length front.known) w.log) ≡ length front.known = length-take-le (length front.known) w.log (omega arith) in
      let mapped : length (words_read front) ≡ length front.read = length-map front.read words_of_row in
      ext_get_or [] (words_read front) (take (length front.known) w.log) (mapped ∙ (rows ∙ sym long))
      (λ i h. let lt : i < length front.read = omega arith in
      let small : i < length front.known = omega arith in
      let row_wide : length (get_or front.read i []) ≡ width_of p = stands.wide i [] lt in
      let log_wide : length (get_or w.log i []) ≡ width_of p = counted.wide i [] (omega arith) in
      get_or-map words_of_row front.read i [] [] lt
      ∙ (row_is (get_or front.read i []) (get_or w.log i []) (row_wide ∙ sym log_wide) (whole i [] lt) (λ place word e. stands.words i place word e)
      ∙ sym (get_or-take (length front.known) w.log i [] small)))

  pub sight_shaped : (s : Sight) → s.parameters ≡ p → StandsIn p w s.front → IsSight s
  sight_shaped s same stands =
      let short : length s.front.known ≤ length w.dir = known_length p w s.front stands in
      let few : length w.dir ≤ p.k = counted.short in
      subst (λ (q : Parameters). IsSight (record s { parameters = q })) (sym same) (record {
        count = omega arith;
        regions = λ n d h. let t = counted.within n (omega arith) in
            let there : get_or s.front.known n d ≡ get_or w.dir n 0 = get_or_default s.front.known n d 0 h ∙ known_at p w s.front stands n h in
            subst (λ (r : ℕ). (1 ≤ r) × (r ≤ p.passes + p.k)) (sym there) (t.0, (let l : get_or w.dir n 0 ≤ p.passes + length w.dir = t.1 in omega arith));
        rows = stands.rows;
        wide = stands.wide;
      })

  pub sounds : (words : List ℕ) (seat : ℕ) (v : CallerView) → CallerKnows p w words seat v → IsSoundView v
  sounds words seat v knows =
      let s : Sight = v.sight in
      let same : s.parameters ≡ p = knows.sight.parameters in
      let stands : StandsIn p w s.front = knows.sight.front in
      let short : length s.front.known ≤ length w.dir = known_length p w s.front stands in
      let few : length w.dir ≤ p.k = counted.short in
      let logged : length w.log ≡ length w.dir = counted.logged in
      let to : v.draft ≤ p.passes + length w.dir = knows.draft_to in
      subst (λ (q : Parameters). IsSoundView (record v { sight = record s { parameters = q } })) (sym same) (record {
        shaped = record {
          sight = sight_shaped (record s { parameters = p }) refl stands;
          draft = (knows.draft_from, omega arith);
          written = knows.row;
        };
        olds = λ k d h. (knows.sight.olds k d h).1;
        good = λ whole. subst (λ (l : List (List ℕ)). IsGood p l) (sym (front_is s.front stands whole)) (good_front p w.log (length s.front.known) (omega arith) counted.good);
        own = λ whole. offers_in_front v.number (length s.front.known) w.log v.own (omega arith) knows.own knows.own_known
            ∙ ap (λ (l : List (List ℕ)). offers_of v.number l) (sym (front_is s.front stands whole));
        callers = λ whole. subst (λ (l : List (List ℕ)). All (λ region. caller_in region < p.passes) l) (sym (front_is s.front stands whole))
            (callers_given (length s.front.known) (omega arith));
      })
