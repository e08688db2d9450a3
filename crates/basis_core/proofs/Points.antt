-- At each point one call records: the calls of all callers that fit the records, point by point.
use Rattle.std.proofs.Common.{◌≡◌, ◌≢◌, ◌⊎◌, inl, inr, ⊎_elim, ℕ, suc, ◌+◌, ◌<◌, ◌≤◌, eqb, Bool, true, false, ◌&&◌, cond, List, [], ◌∷◌, ◌++◌, map, length, take, Option, Some, None, refl, sym, ap, ◌∙◌, subst, arith}
use Rattle.std.specs.List.{filter, AllByRecursion}
use Rattle.std.specs.Option.{option_to_list}
use Rattle.std.proofs.lemmas.Bool.{ne_eqb, eq-eqb}
use Rattle.std.proofs.lemmas.List.{append_assoc, map-append, length-append, length_push}
use Rattle.std.proofs.lemmas.List.Elements.{filter-append}
use Rattle.std.proofs.Math.Seq.{take-append_seam}
use Rattle.linear_spec.specs.declared.equations.Equations.{Equations}
use Rattle.linear_spec.specs.declared.packet.Packet.{Packet}
use Rattle.linear_spec.specs.declared.record.Record.{Record}
use Rattle.linear_spec.specs.declared.reply.Reply.TheVariants.{Innovative}
use Rattle.linear_spec.specs.SequentialBasis.{packets_of}
use Rattle.basis_core.specs.Calls.{KeptCall, KeptOffer, point_of, recorded_by, count_of, IsAnsweredAt}
use Rattle.basis_core.specs.Run.{AreInnovativeFrom}
use Rattle.basis_core.specs.Merge.{own_offers, stands_at}
use Rattle.basis_core.specs.Legal.{is_of}
use Rattle.basis_core.proofs.Lists.{each-passing}
use Rattle.basis_core.proofs.Merging.{stands_tells}
use Rattle.basis_core.proofs.Runs.{IsRight, own_places, made_places}

-- the recording calls of a list, each as its point and its packet
abbrev pub made_points : List KeptCall → List (ℕ × Packet)
made_points [] = []
made_points (c ∷ cs) = map (λ packet. (point_of c, packet)) (option_to_list (recorded_by c)) ++ made_points cs

-- the records of one caller, each as its place and its packet
abbrev pub own_points : ℕ → List Record → ℕ → List (ℕ × Packet)
own_points number [] at = []
own_points number (r ∷ rs) at = cond (is_of number r) ((at, r.packet) ∷ own_points number rs (at + 1)) (own_points number rs (at + 1))

abbrev without_number : ℕ × Record → ℕ × Packet
without_number x = (x.0, x.1.packet)

points_of_places : (number : ℕ) (records : List Record) (at : ℕ) → map without_number (own_places number records at) ≡ own_points number records at
points_of_places number [] at = refl
points_of_places number (r ∷ records) at =
    elim (is_of number r) as
    (λ b. map without_number (cond b ((at, r) ∷ own_places number records (at + 1)) (own_places number records (at + 1)))
    ≡ cond b ((at, r.packet) ∷ own_points number records (at + 1)) (own_points number records (at + 1))) [
      | true ↦ ap (λ l. (at, r.packet) ∷ l) (points_of_places number records (at + 1))
      | false ↦ points_of_places number records (at + 1)
    ]

first_point : (number i : ℕ) (c : KeptCall) (o : Option Packet)
    → map without_number (map (λ packet. let x : ℕ × Record = (point_of c, record { caller = number; call = i; packet = packet }) in x) (option_to_list o))
    ≡ map (λ packet. (point_of c, packet)) (option_to_list o)
first_point number i c None = refl
first_point number i c (Some packet) = refl

points_of_made : (number : ℕ) (calls : List KeptCall) (i : ℕ) → map without_number (made_places number calls i) ≡ made_points calls
points_of_made number [] i = refl
points_of_made number (c ∷ cs) i =
    map-append without_number (map (λ packet. let x : ℕ × Record = (point_of c, record { caller = number; call = i; packet = packet }) in x) (option_to_list (recorded_by c))) (made_places number cs (i + 1))
    ∙ ap (λ l. l ++ map without_number (made_places number cs (i + 1))) (first_point number i c (recorded_by c))
    ∙ ap (λ l. map (λ packet. (point_of c, packet)) (option_to_list (recorded_by c)) ++ l) (points_of_made number cs (i + 1))

pub points_from_places : (number : ℕ) (calls : List KeptCall) (records : List Record) → made_places number calls 0 ≡ own_places number records 0
    → made_points calls ≡ own_points number records 0
points_from_places number calls records same = sym (points_of_made number calls 0) ∙ ap (map without_number) same ∙ points_of_places number records 0

-- a caller that is not given has just the offers of its records
pub points_of_offers : (number : ℕ) (records : List Record) (at : ℕ) → made_points (own_offers number records at) ≡ own_points number records at
points_of_offers number [] at = refl
points_of_offers number (r ∷ records) at =
    elim (is_of number r) as
    (λ b. made_points (cond b (KeptOffer 0 r.packet (Innovative at) ∷ own_offers number records (at + 1)) (own_offers number records (at + 1)))
    ≡ cond b ((at, r.packet) ∷ own_points number records (at + 1)) (own_points number records (at + 1))) [
      | true ↦ ap (λ l. (at, r.packet) ∷ l) (points_of_offers number records (at + 1))
      | false ↦ points_of_offers number records (at + 1)
    ]

-- and they are right
pub offers_are_right : (equations : Equations) (number : ℕ) (records : List Record) (front : List Packet) → AreInnovativeFrom equations (packets_of records) front
    → AllByRecursion (IsRight equations (front ++ packets_of records)) (own_offers number records (length front))
offers_are_right equations number [] front innovative = tt
offers_are_right equations number (r ∷ records) front innovative =
    let all = front ++ packets_of (r ∷ records) in
    let long = length-append front (packets_of (r ∷ records)) in
    let seam : take (length front) all ≡ front = take-append_seam front (packets_of (r ∷ records)) in
    let call : KeptCall = KeptOffer 0 r.packet (Innovative (length front)) in
    let answered : IsAnsweredAt equations front call = (innovative.0.0, (innovative.0.1, refl)) in
    let right : IsRight equations all call = record { within = omega arith; answered = subst (λ f. IsAnsweredAt equations f call) (sym seam) answered } in
    let next : length (front ++ r.packet ∷ []) ≡ length front + 1 = length_push front r.packet ∙ (omega arith) in
    let joined : (front ++ r.packet ∷ []) ++ packets_of records ≡ all = append_assoc front (r.packet ∷ []) (packets_of records) in
    let rest : AllByRecursion (IsRight equations all) (own_offers number records (length front + 1)) =
    subst (λ n. AllByRecursion (IsRight equations all) (own_offers number records n)) next
    (subst (λ ps. AllByRecursion (IsRight equations ps) (own_offers number records (length (front ++ r.packet ∷ [])))) joined
    (offers_are_right equations number records (front ++ r.packet ∷ []) innovative.1)) in
    elim (is_of number r) as
    (λ b. AllByRecursion (IsRight equations all) (cond b (call ∷ own_offers number records (length front + 1)) (own_offers number records (length front + 1)))) [
      | true ↦ (right, rest)
      | false ↦ rest
    ]

abbrev pub is_point : ℕ → ℕ × Packet → Bool
is_point point x = eqb x.0 point

own_append : (number : ℕ) (xs ys : List Record) (at : ℕ) → own_points number (xs ++ ys) at ≡ own_points number xs at ++ own_points number ys (at + length xs)
own_append number [] ys at = let none : at + 0 ≡ at = omega arith in ap (own_points number ys) (sym none)
own_append number (x ∷ xs) ys at =
    let next : at + 1 + length xs ≡ at + suc (length xs) = omega arith in
    let rest = own_append number xs ys (at + 1) ∙ ap (λ n. own_points number xs (at + 1) ++ own_points number ys n) next in
    elim (is_of number x) as
    (λ b. cond b ((at, x.packet) ∷ own_points number (xs ++ ys) (at + 1)) (own_points number (xs ++ ys) (at + 1))
    ≡ cond b ((at, x.packet) ∷ own_points number xs (at + 1)) (own_points number xs (at + 1)) ++ own_points number ys (at + suc (length xs))) [
      | true ↦ ap (λ l. (at, x.packet) ∷ l) rest
      | false ↦ rest
    ]

none_here : (number point : ℕ) (xs : List Record) (at : ℕ) → (point < at) ⊎ (at + length xs ≤ point) → filter (is_point point) (own_points number xs at) ≡ []
none_here number point [] at outside = refl
none_here number point (x ∷ xs) at outside =
    let ne : at ≢ point = λ e. ⊎_elim (λ (h : point < at). absurd (omega arith)) (λ (h : at + suc (length xs) ≤ point). absurd (omega arith)) outside in
    let test : eqb at point ≡ false = ne_eqb at point ne in
    let rest = none_here number point xs (at + 1) (⊎_elim (λ (h : point < at). inl (omega arith)) (λ (h : at + suc (length xs) ≤ point). inr (omega arith)) outside) in
    elim (is_of number x) as
    (λ b. filter (is_point point) (cond b ((at, x.packet) ∷ own_points number xs (at + 1)) (own_points number xs (at + 1))) ≡ []) [
      | true ↦ rw test rest
      | false ↦ rest
    ]

-- the record at a place is the one point of its caller there, and no other caller has one there
pub own_here : (number : ℕ) (before after : List Record) (r : Record)
    → filter (is_point (length before)) (own_points number (before ++ r ∷ after) 0) ≡ cond (is_of number r) ((length before, r.packet) ∷ []) []
own_here number before after r =
    let point = length before in
    let start : 0 + point ≡ point = omega arith in
    let test : eqb point point ≡ true = eq-eqb point point refl in
    let later = none_here number point after (point + 1) (inl (omega arith)) in
    let here : filter (is_point point) (own_points number (r ∷ after) point) ≡ cond (is_of number r) ((point, r.packet) ∷ []) [] =
    elim (is_of number r) as
    (λ b. filter (is_point point) (cond b ((point, r.packet) ∷ own_points number after (point + 1)) (own_points number after (point + 1)))
    ≡ cond b ((point, r.packet) ∷ []) []) [
      | true ↦ rw test (ap (λ l. (point, r.packet) ∷ l) later)
      | false ↦ later
    ] in
    ap (filter (is_point point)) (own_append number before (r ∷ after) 0 ∙ ap (λ n. own_points number before 0 ++ own_points number (r ∷ after) n) start)
    ∙ filter-append (is_point point) (own_points number before 0) (own_points number (r ∷ after) point)
    ∙ ap (λ l. l ++ filter (is_point point) (own_points number (r ∷ after) point)) (none_here number point before 0 (inr (omega arith)))
    ∙ here

pub own_past : (number : ℕ) (records : List Record) → filter (is_point (length records)) (own_points number records 0) ≡ []
own_past number records = none_here number (length records) records 0 (inr (omega arith))

stands_none : (point : ℕ) (c : KeptCall) → recorded_by c ≡ None → stands_at point 1 c ≡ false
stands_none point c e = go (eqb (point_of c) point) (eqb (count_of (recorded_by c)) 1) (ap (λ o. eqb (count_of o) 1) e)
  where
    go : (x y : Bool) → y ≡ false → (x && y) ≡ false
    go true y h = h
    go false y h = refl

stands_some : (point : ℕ) (c : KeptCall) (packet : Packet) → recorded_by c ≡ Some packet → stands_at point 1 c ≡ eqb (point_of c) point
stands_some point c packet e = go (eqb (point_of c) point) (eqb (count_of (recorded_by c)) 1) (ap (λ o. eqb (count_of o) 1) e)
  where
    go : (x y : Bool) → y ≡ true → (x && y) ≡ x
    go true y h = h
    go false y h = refl

point_step : (point : ℕ) (c : KeptCall) (calls : List KeptCall) (o : Option Packet) → recorded_by c ≡ o
    → made_points (filter (stands_at point 1) calls) ≡ filter (is_point point) (made_points calls)
    → made_points (filter (stands_at point 1) (c ∷ calls)) ≡ filter (is_point point) (made_points (c ∷ calls))
point_step point c calls None e ih =
    let there = filter (stands_at point 1) calls in
    let none : made_points (c ∷ calls) ≡ made_points calls = rw e refl in
    ap (λ b. made_points (cond b (c ∷ there) there)) (stands_none point c e) ∙ ih ∙ ap (filter (is_point point)) (sym none)
point_step point c calls (Some packet) e ih = go (eqb (point_of c) point) refl
  where
    there : List KeptCall
    there = filter (stands_at point 1) calls

    first : (cs : List KeptCall) → made_points (c ∷ cs) ≡ (point_of c, packet) ∷ made_points cs
    first cs = rw e refl

    go : (b : Bool) → eqb (point_of c) point ≡ b → made_points (filter (stands_at point 1) (c ∷ calls)) ≡ filter (is_point point) (made_points (c ∷ calls))
    go true t =
        let passes : filter (is_point point) ((point_of c, packet) ∷ made_points calls) ≡ (point_of c, packet) ∷ filter (is_point point) (made_points calls) = rw t refl in
        ap (λ b. made_points (cond b (c ∷ there) there)) (stands_some point c packet e ∙ t) ∙ first there ∙ ap (λ l. (point_of c, packet) ∷ l) ih
        ∙ sym passes ∙ ap (filter (is_point point)) (sym (first calls))
    go false t =
        let fails : filter (is_point point) ((point_of c, packet) ∷ made_points calls) ≡ filter (is_point point) (made_points calls) = rw t refl in
        ap (λ b. made_points (cond b (c ∷ there) there)) (stands_some point c packet e ∙ t) ∙ ih
        ∙ sym fails ∙ ap (filter (is_point point)) (sym (first calls))

points_at : (point : ℕ) (calls : List KeptCall) → made_points (filter (stands_at point 1) calls) ≡ filter (is_point point) (made_points calls)
points_at point [] = refl
points_at point (c ∷ calls) = point_step point c calls (recorded_by c) refl (points_at point calls)

abbrev IsRecording : KeptCall → Type 0
IsRecording c = count_of (recorded_by c) ≡ 1

none_recording : (c : KeptCall) (calls : List KeptCall) (o : Option Packet) → recorded_by c ≡ o → count_of o ≡ 1 → made_points (c ∷ calls) ≡ [] → ⊥
none_recording c calls None e one none = absurd (omega arith)
none_recording c calls (Some packet) e one none =
    let h : (point_of c, packet) ∷ made_points calls ≡ [] = rw e at none in
    cc

no_points : (calls : List KeptCall) → AllByRecursion IsRecording calls → made_points calls ≡ [] → calls ≡ []
no_points [] all none = refl
no_points (c ∷ calls) all none = absurd (none_recording c calls (recorded_by c) refl all.0 none)

abbrev first_packet : List (ℕ × Packet) → Option Packet
first_packet [] = None
first_packet (x ∷ xs) = Some x.1

one_recording : (c : KeptCall) (calls : List KeptCall) (o : Option Packet) (point : ℕ) (packet : Packet) → recorded_by c ≡ o → count_of o ≡ 1
    → made_points (c ∷ calls) ≡ (point, packet) ∷ [] → (recorded_by c ≡ Some packet) × (made_points calls ≡ [])
one_recording c calls None point packet e one same = absurd (omega arith)
one_recording c calls (Some packet') point packet e one same =
    let h : (point_of c, packet') ∷ made_points calls ≡ (point, packet) ∷ [] = rw e at same in
    let rest : made_points calls ≡ [] = cc in
    (e ∙ ap first_packet h, rest)

one_point : (calls : List KeptCall) (point : ℕ) (packet : Packet) → AllByRecursion IsRecording calls → made_points calls ≡ (point, packet) ∷ []
    → (c : KeptCall) × (calls ≡ c ∷ []) × (recorded_by c ≡ Some packet)
one_point [] point packet all same = absurd (let e : ⊥ = cc in e)
one_point (c ∷ calls) point packet all same =
    let both = one_recording c calls (recorded_by c) point packet refl all.0 same in
    (c, ap (λ l. c ∷ l) (no_points calls all.1 both.1), both.0)

recording_there : (point : ℕ) (calls : List KeptCall) → AllByRecursion IsRecording (filter (stands_at point 1) calls)
recording_there point calls = each-passing IsRecording (stands_at point 1) calls (λ c test. (stands_tells point 1 c test).1)

-- calls that claim a caller's records: at a record's place its caller has one call that records it
pub records_here : (number : ℕ) (calls : List KeptCall) (before after : List Record) (r : Record) → made_points calls ≡ own_points number (before ++ r ∷ after) 0
    → is_of number r ≡ true → (c : KeptCall) × (filter (stands_at (length before) 1) calls ≡ c ∷ []) × (recorded_by c ≡ Some r.packet)
records_here number calls before after r same mine =
    one_point (filter (stands_at (length before) 1) calls) (length before) r.packet (recording_there (length before) calls)
    (points_at (length before) calls ∙ ap (filter (is_point (length before))) same ∙ own_here number before after r
    ∙ ap (λ b. cond b ((length before, r.packet) ∷ []) []) mine)

-- and every other caller none
pub records_not_here : (number : ℕ) (calls : List KeptCall) (before after : List Record) (r : Record) → made_points calls ≡ own_points number (before ++ r ∷ after) 0
    → is_of number r ≡ false → filter (stands_at (length before) 1) calls ≡ []
records_not_here number calls before after r same other =
    no_points (filter (stands_at (length before) 1) calls) (recording_there (length before) calls)
    (points_at (length before) calls ∙ ap (filter (is_point (length before))) same ∙ own_here number before after r
    ∙ ap (λ b. cond b ((length before, r.packet) ∷ []) []) other)

-- past all records nobody records
pub records_past : (number : ℕ) (calls : List KeptCall) (records : List Record) → made_points calls ≡ own_points number records 0
    → filter (stands_at (length records) 1) calls ≡ []
records_past number calls records same =
    no_points (filter (stands_at (length records) 1) calls) (recording_there (length records) calls)
    (points_at (length records) calls ∙ ap (filter (is_point (length records))) same ∙ own_past number records)
