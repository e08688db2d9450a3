-- A judgement falls alike on a front of a frame's bytes and on all of them: it looks at bytes of the front alone.
use Rattle.std.proofs.Common.{◌≡◌, ℕ, ◌+◌, ◌<◌, ◌≤◌, Bool, true, false, not, ◌&&◌, ◌==◌, List, [], ◌∷◌, ◌++◌, length, get_or, take, drop, Some, None, refl, ap, sym, subst, ◌∙◌, arith, nat_le, nat_lt, ◌%◌}
use Rattle.std.proofs.Math.ListN.{get_or-append}
use Rattle.std.proofs.lemmas.Bool.{eqb-true, eq-eqb}
use Rattle.packet_wire.specs.declared.fault.FaultKind.{FaultKind}
use Rattle.packet_wire.specs.declared.fault.FaultKind.TheVariants as faults
use Rattle.generation.specs.Shape.{Dimensions, generations_of}
use Rattle.packet_wire.proofs.Judging.{is_none, none}
use Rattle.packet_wire.specs.declared.phase.Phase.{Phase}
use Rattle.packet_wire.specs.declared.phase.Phase.TheVariants.{BeforeManifest, BeforeTicket, BeforeEnd, Ended}
use Rattle.packet_wire.specs.Judgements.{Judgement, judge, body_judgements, first_failure, head_judgements, judgements, number16_at, number32_at, number64_at, fault_at, kind_in, body_len_in, shape_in, is_kind, may_have_version, may_follow, fits_kind, ticket_len}
use Rattle.packet_wire.specs.Faults.{NothingFails}
use Rattle.std.proofs.lemmas.List.{length-append, take-append-drop, length-take-le}

-- ---- numbers of a front

pub cell_of_front : (front more : List ℕ) (i : ℕ) → i < length front → get_or (front ++ more) i 0 ≡ get_or front i 0
cell_of_front front more i below = get_or-append front more 0 i below

pub number16_of_front : (front more : List ℕ) (i : ℕ) → i + 2 ≤ length front → number16_at (front ++ more) i ≡ number16_at front i
number16_of_front front more i below =
    let high = cell_of_front front more i (omega arith) in
    let low = cell_of_front front more (i + 1) (omega arith) in
    omega (arith, high, low)

pub number32_of_front : (front more : List ℕ) (i : ℕ) → i + 4 ≤ length front → number32_at (front ++ more) i ≡ number32_at front i
number32_of_front front more i below =
    let high = number16_of_front front more i (omega arith) in
    let low = number16_of_front front more (i + 2) (omega arith) in
    omega (arith, high, low)

pub number64_of_front : (front more : List ℕ) (i : ℕ) → i + 8 ≤ length front → number64_at (front ++ more) i ≡ number64_at front i
number64_of_front front more i below =
    let high = number32_of_front front more i (omega arith) in
    let low = number32_of_front front more (i + 4) (omega arith) in
    omega (arith, high, low)

-- ---- judgements that agree where they fall

record SameWhere (j k : Judgement) (count : ℕ) : Type 0 where
  pub at : j.at ≡ k.at
  pub kind : j.kind ≡ k.kind
  pub offset : j.offset ≡ k.offset
  pub passes : k.at ≡ count → j.passes ≡ k.passes

abbrev Agree : List Judgement → List Judgement → ℕ → Type 0
Agree [] [] count = Unit {0}
Agree (j ∷ js) (k ∷ ks) count = SameWhere j k count × Agree js ks count
Agree _ _ count = ⊥

same : (at : ℕ) (p q : Bool) (kind : FaultKind) (offset : ℕ) (count : ℕ) → (at ≡ count → p ≡ q) → SameWhere (judge at p kind offset) (judge at q kind offset) count
same at p q kind offset count passes = record { at = refl; kind = refl; offset = refl; passes = passes }

same_failure : (j k : Judgement) (js ks : List Judgement) (count : ℕ) → SameWhere j k count → first_failure js count ≡ first_failure ks count → first_failure (j ∷ js) count ≡ first_failure (k ∷ ks) count
same_failure j k js ks count alike others =
    falls (k.at == count) refl
  where
    falls : (b : Bool) → (k.at == count) ≡ b → first_failure (j ∷ js) count ≡ first_failure (k ∷ ks) count
    falls true is = rw (alike.at, alike.kind, alike.offset, alike.passes (eqb-true k.at count is), others) refl
    falls false is = rw (alike.at, is, others) refl

agreed : (js ks : List Judgement) (count : ℕ) → Agree js ks count → first_failure js count ≡ first_failure ks count
agreed [] [] count agree = refl
agreed [] (k ∷ ks) count agree = absurd agree
agreed (j ∷ js) [] count agree = absurd agree
agreed (j ∷ js) (k ∷ ks) count agree = same_failure j k js ks count agree.0 (agreed js ks count agree.1)

agree_both : (xs xs' ys ys' : List Judgement) (count : ℕ) → Agree xs xs' count → Agree ys ys' count → Agree (xs ++ ys) (xs' ++ ys') count
agree_both [] [] ys ys' count first second = second
agree_both [] (k ∷ ks) ys ys' count first second = absurd first
agree_both (j ∷ js) [] ys ys' count first second = absurd first
agree_both (j ∷ js) (k ∷ ks) ys ys' count first second = (first.0, agree_both js ks ys ys' count first.1 second)

head_of_front : (phase : Phase) (front more : List ℕ) → Agree (head_judgements phase (front ++ more)) (head_judgements phase front) (length front)
unfolding head_judgements
head_of_front phase front more =
    let n = length front in (
      same 1 _ _ faults.BadMagic 0 n (λ e. ap (λ (x : ℕ). x == 65) (cell_of_front front more 0 (omega (arith, e)))),
      (
        same 2 _ _ faults.BadMagic 1 n (λ e. ap (λ (x : ℕ). x == 86) (cell_of_front front more 1 (omega (arith, e)))),
        (
          same 3 _ _ faults.BadMagic 2 n (λ e. ap (λ (x : ℕ). x == 76) (cell_of_front front more 2 (omega (arith, e)))),
          (
            same 4 _ _ faults.BadMagic 3 n (λ e. ap (λ (x : ℕ). x == 78) (cell_of_front front more 3 (omega (arith, e)))),
            (
              same 5 _ _ faults.BadVersion 4 n (λ e. ap (may_have_version phase) (cell_of_front front more 4 (omega (arith, e)))),
              (
                same 6 _ _ faults.BadKind 5 n (λ e. ap (is_kind phase) (cell_of_front front more 5 (omega (arith, e)))),
                (
                  same 6 _ _ faults.OutOfOrder 5 n (λ e. ap (may_follow phase) (cell_of_front front more 5 (omega (arith, e)))),
                  (
                    same 10 _ _ faults.BadLength 6 n (λ e.
                        ap (λ (kind : ℕ). fits_kind phase kind (body_len_in (front ++ more))) (cell_of_front front more 5 (omega (arith, e)))
                        ∙ ap (λ (len : ℕ). fits_kind phase (kind_in front) len) (number32_of_front front more 6 (omega (arith, e)))),
                    tt,
                  ),
                ),
              ),
            ),
          ),
        ),
      ),
    )

shape_of_front : (front more : List ℕ) → 22 ≤ length front → shape_in (front ++ more) ≡ shape_in front
shape_of_front front more there =
    let len : number64_at (front ++ more) 10 ≡ number64_at front 10 = number64_of_front front more 10 (omega arith) in
    let k : number16_at (front ++ more) 18 ≡ number16_at front 18 = number16_of_front front more 18 (omega arith) in
    let block : number16_at (front ++ more) 20 ≡ number16_at front 20 = number16_of_front front more 20 (omega arith) in
    ap (λ (n : ℕ). record { len = n; k = number16_at (front ++ more) 18; block = number16_at (front ++ more) 20 }) len
    ∙ ap (λ (n : ℕ). record { len = number64_at front 10; k = n; block = number16_at (front ++ more) 20 }) k
    ∙ ap (λ (n : ℕ). record { len = number64_at front 10; k = number16_at front 18; block = n }) block

body_of_front : (phase : Phase) (front more : List ℕ) → Agree (body_judgements phase (front ++ more)) (body_judgements phase front) (length front)
unfolding body_judgements
body_of_front BeforeManifest front more =
    let n = length front in (
      same 18 _ _ faults.BadField 10 n (λ e. ap (λ (x : ℕ). nat_le x 16777216) (number64_of_front front more 10 (omega (arith, e)))),
      (
        same 20 _ _ faults.BadField 18 n (λ e. ap (λ (x : ℕ). nat_le 1 x && nat_le x 64) (number16_of_front front more 18 (omega (arith, e)))),
        (
          same 22 _ _ faults.BadField 20 n (λ e. ap (λ (x : ℕ). x % 2 == 0 && nat_le 2 x && nat_le x 4096) (number16_of_front front more 20 (omega (arith, e)))),
          (
            same 22 _ _ faults.BadField 20 n (λ e. ap (λ (d : Dimensions). nat_le (generations_of d) 256) (shape_of_front front more (omega (arith, e)))),
            tt,
          ),
        ),
      ),
    )
body_of_front (BeforeTicket shape) front more = (
  same 43 _ _ faults.BadField 42 (length front) (λ e.
      ap (λ (x : ℕ). nat_le x 8 && body_len_in (front ++ more) == ticket_len shape x) (cell_of_front front more 42 (omega (arith, e)))
      ∙ ap (λ (x : ℕ). nat_le (get_or front 42 0) 8 && x == ticket_len shape (get_or front 42 0)) (number32_of_front front more 6 (omega (arith, e)))),
  tt,
)
body_of_front (BeforeEnd shape) front more = (
  same 12 _ _ faults.BadField 10 (length front) (λ e. ap (λ (x : ℕ). nat_lt x (generations_of shape)) (number16_of_front front more 10 (omega (arith, e)))),
  tt,
)
body_of_front Ended front more = tt

-- the fault that the last byte of a front brings is what the judgements of all the bytes say at its length
pub fault_of_front : (phase : Phase) (front more : List ℕ) → first_failure (judgements phase (front ++ more)) (length front) ≡ fault_at phase front
unfolding judgements
fault_of_front BeforeManifest front more = agreed _ _ (length front) (agree_both (head_judgements BeforeManifest (front ++ more)) (head_judgements BeforeManifest front) (body_judgements BeforeManifest (front ++ more)) (body_judgements BeforeManifest front) (length front) (head_of_front BeforeManifest front more) (body_of_front BeforeManifest front more))
fault_of_front (BeforeTicket shape) front more = agreed _ _ (length front) (agree_both (head_judgements (BeforeTicket shape) (front ++ more)) (head_judgements (BeforeTicket shape) front) (body_judgements (BeforeTicket shape) (front ++ more)) (body_judgements (BeforeTicket shape) front) (length front) (head_of_front (BeforeTicket shape) front more) (body_of_front (BeforeTicket shape) front more))
fault_of_front (BeforeEnd shape) front more = agreed _ _ (length front) (agree_both (head_judgements (BeforeEnd shape) (front ++ more)) (head_judgements (BeforeEnd shape) front) (body_judgements (BeforeEnd shape) (front ++ more)) (body_judgements (BeforeEnd shape) front) (length front) (head_of_front (BeforeEnd shape) front more) (body_of_front (BeforeEnd shape) front more))
fault_of_front Ended front more = refl

-- ---- judgements that all pass, as far as they fall on so many bytes

abbrev pub Passed : List Judgement → ℕ → Type 0
Passed [] count = Unit {0}
Passed (j ∷ js) count = (j.at ≤ count → j.passes ≡ true) × Passed js count

-- a judgement that falls passes, if it does not fail
falls_here : (j : Judgement) (js : List Judgement) → first_failure (j ∷ js) j.at ≡ None → j.passes ≡ true
falls_here j js none =
    decided j.passes refl
  where
    decided : (b : Bool) → j.passes ≡ b → j.passes ≡ true
    decided true is = is
    decided false is =
        let fails : (j.at == j.at && not j.passes) ≡ true = rw (eq-eqb j.at j.at refl, is) refl in
        let wrong = rw fails at none in
        absurd (let w : Some (record { offset = j.offset; kind = j.kind }) ≡ None = wrong in cc)

falls_later : (j : Judgement) (js : List Judgement) (count : ℕ) → first_failure (j ∷ js) count ≡ None → first_failure js count ≡ None
falls_later j js count none =
    decided (j.at == count && not j.passes) refl
  where
    decided : (b : Bool) → (j.at == count && not j.passes) ≡ b → first_failure js count ≡ None
    decided true is = absurd (let wrong = rw is at none in let w : Some (record { offset = j.offset; kind = j.kind }) ≡ None = wrong in cc)
    decided false is = rw is at none

pub all_passed : (js : List Judgement) (count : ℕ) → ((n : ℕ) → n ≤ count → first_failure js n ≡ None) → Passed js count
all_passed [] count none = tt
all_passed (j ∷ js) count none =
    (λ below. falls_here j js (none j.at below), all_passed js count (λ n below. falls_later j js n (none n below)))

passes_here : (j : Judgement) (js : List Judgement) (count n : ℕ) → (j.at ≤ count → j.passes ≡ true) → n ≤ count → first_failure js n ≡ None → first_failure (j ∷ js) n ≡ None
passes_here j js count n passes below others =
    decided (j.at == n) refl
  where
    decided : (b : Bool) → (j.at == n) ≡ b → first_failure (j ∷ js) n ≡ None
    decided true is = let here = eqb-true j.at n is in rw (is, passes (omega (arith, here))) others
    decided false is = rw is others

pub none_fails : (js : List Judgement) (count n : ℕ) → Passed js count → n ≤ count → first_failure js n ≡ None
none_fails [] count n passed below = refl
none_fails (j ∷ js) count n passed below = passes_here j js count n passed.0 below (none_fails js count n passed.1 below)

-- ---- a frame's bytes in which nothing fails

pub passed_of_clean : (phase : Phase) (held : List ℕ) → NothingFails phase held → Passed (judgements phase held) (length held)
passed_of_clean phase held clean =
    all_passed (judgements phase held) (length held) (λ n below.
    let whole = take-append-drop n held in
    let count : length (take n held) ≡ n = length-take-le n held below in
    let at = fault_of_front phase (take n held) (drop n held) ∙ none (fault_at phase (take n held)) (clean (take n held) (drop n held) (sym whole)) in
    subst (λ (m : ℕ). first_failure (judgements phase held) m ≡ None) count
    (subst (λ (s : List ℕ). first_failure (judgements phase s) (length (take n held)) ≡ None) whole at))

pub clean_of_passed : (phase : Phase) (held : List ℕ) → Passed (judgements phase held) (length held) → NothingFails phase held
clean_of_passed phase held passed front more whole =
    is_none (fault_at phase front) (sym (fault_of_front phase front more)
    ∙ subst (λ (s : List ℕ). first_failure (judgements phase s) (length front) ≡ None) whole
    (none_fails (judgements phase held) (length held) (length front) passed (omega (arith, ap length whole, length-append front more))))
