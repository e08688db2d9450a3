-- Which check a packet fails first, and the packets that pass.
use Rattle.std.proofs.Common.{◌≡◌, ℕ, zero, suc, ◌+◌, ◌<◌, ◌≤◌, Bool, true, false, cond, Option, Some, None, refl, sym, ap, subst, arith, inl, inr}
use Rattle.std.specs.Prelude.{◌==◌, ◌&&◌, not, find}
use Rattle.std.specs.List.{range_with_len}
use Rattle.std.specs.Option.{option_map_or}
use Rattle.std.proofs.lemmas.Bool.{cases_eq, ne_eqb, eq-eqb}
use Rattle.linear_spec.specs.declared.equations.Equations.{Equations}
use Rattle.linear_spec.specs.declared.packet.Packet.{Packet}
use Rattle.gf16.specs.Sums.{dot_of}
use Rattle.linear_spec.specs.Passing.{IsFirstFailing, Meets, Passes, sums_of, weights_of}
use Rattle.avalanche_cli.specs.Packets.{first_failing_check, meets, passes}

-- ---- the first number that passes a test

none_found : (test : ℕ → Bool) (n a : ℕ) → ((k : ℕ) → a ≤ k → k < a + n → test k ≡ false) → find test (range_with_len a n) ≡ None
none_found test zero a none = refl
none_found test (suc n) a none = rw (none a (omega arith) (omega arith)) (none_found test n (a + 1) (λ k low high. none k (omega arith) (omega arith)))

one_found : (test : ℕ → Bool) (n a k : ℕ) → a ≤ k → k < a + n → test k ≡ true → ((j : ℕ) → a ≤ j → j < k → test j ≡ false) → find test (range_with_len a n) ≡ Some k
one_found test zero a k low high here before = absurd (omega arith)
one_found test (suc n) a k low high here before =
    elim (cases_eq k a) [
      | inl at ↦ rw (sym at, here) refl
      | inr not_at ↦ rw (before a (omega arith) (omega arith)) (one_found test n (a + 1) k (omega arith) (omega arith) here (λ j above below. before j (omega arith) below))
    ]

-- the first number that passes
record IsFirst (test : ℕ → Bool) (n a k : ℕ) : Type 0 where
  low : a ≤ k
  below : k < a + n
  here : test k ≡ true
  before : (j : ℕ) → a ≤ j → j < k → test j ≡ false

found_first : (test : ℕ → Bool) (n a k : ℕ) → find test (range_with_len a n) ≡ Some k → IsFirst test n a k
found_first test zero a k is = absurd cc
found_first test (suc n) a k is = by_cases (test a) refl (λ rest. found_first test n (a + 1) k rest)
  where
    by_cases : (b : Bool) → test a ≡ b → (find test (range_with_len (a + 1) n) ≡ Some k → IsFirst test n (a + 1) k) → IsFirst test (suc n) a k
    by_cases true here rest = let same : a ≡ k = cc in record {
      low = omega arith;
      below = omega arith;
      here = subst (λ (m : ℕ). test m ≡ true) same here;
      before = λ j above low. absurd (omega arith);
    }
    by_cases false here rest = let found = rest cc in record {
      low = omega (arith, found.low);
      below = omega (arith, found.below);
      here = found.here;
      before = λ j above low. elim (cases_eq j a) [
        | inl same ↦ subst (λ (m : ℕ). test m ≡ false) (sym same) here
        | inr other ↦ found.before j (omega arith) low
      ];
    }

-- where none is found none passes
none_before : (test : ℕ → Bool) (n a k : ℕ) → option_map_or (λ _. false) (find test (range_with_len a n)) true ≡ true → a ≤ k → k < a + n → test k ≡ false
none_before test zero a k is low below = absurd (omega arith)
none_before test (suc n) a k is low below = by_cases (test a) refl (λ rest above. none_before test n (a + 1) k rest above (omega arith))
  where
    by_cases : (b : Bool) → test a ≡ b → (option_map_or (λ _. false) (find test (range_with_len (a + 1) n)) true ≡ true → a + 1 ≤ k → test k ≡ false) → test k ≡ false
    by_cases true here rest =
        let wrong : option_map_or (λ (_ : ℕ). false) (cond (test a) (Some a) (find test (range_with_len (a + 1) n))) true ≡ false = rw here refl in
        absurd cc
    by_cases false here rest = elim (cases_eq k a) [
      | inl same ↦ subst (λ (m : ℕ). test m ≡ false) (sym same) here
      | inr other ↦ rest (rw here at is) (omega arith)
    ]

-- ---- the checks of a packet

met : (equations : Equations) (packet : Packet) (check : ℕ) → Meets equations packet check → not (meets equations packet check) ≡ false
met equations packet check is = ap not (eq-eqb _ _ is)

not_met : (equations : Equations) (packet : Packet) (check : ℕ) → (¬ Meets equations packet check) → not (meets equations packet check) ≡ true
not_met equations packet check is = ap not (ne_eqb _ _ is)

pub first_of_failing : (equations : Equations) (packet : Packet) (check : ℕ) → IsFirstFailing equations packet check → first_failing_check equations packet ≡ Some check
unfolding first_failing_check
first_of_failing equations packet check is =
    one_found (λ c. not (meets equations packet c)) equations.checks 0 check (omega arith) (omega (arith, is.below)) (not_met equations packet check is.fails) (λ earlier above before. met equations packet earlier (is.first earlier before))

pub none_of_passing : (equations : Equations) (packet : Packet) → Passes equations packet → first_failing_check equations packet ≡ None
unfolding first_failing_check
none_of_passing equations packet is =
    none_found (λ c. not (meets equations packet c)) equations.checks 0 (λ check above below. met equations packet check (is check (omega arith)))

pub passes_of : (equations : Equations) (packet : Packet) → Passes equations packet → passes equations packet ≡ true
passes_of equations packet is = ap (λ (o : Option ℕ). option_map_or (λ _. false) o true) (none_of_passing equations packet is)

-- and the way back
meets_of : (equations : Equations) (packet : Packet) (check : ℕ) → not (meets equations packet check) ≡ false → Meets equations packet check
meets_of equations packet check is = decided (dot_of (weights_of equations check) packet.payload) (dot_of packet.coeffs (sums_of equations packet.generation check)) is
  where
    decided : (a b : ℕ) → not (a == b) ≡ false → a ≡ b
    decided a b none =
        elim (cases_eq a b) [
          | inl same ↦ same
          | inr other ↦ let one : not (a == b) ≡ true = ap not (ne_eqb a b other) in absurd cc
        ]

fails_from : (equations : Equations) (packet : Packet) (check : ℕ) → not (meets equations packet check) ≡ true → ¬ Meets equations packet check
fails_from equations packet check is meets_it = let none = met equations packet check meets_it in absurd cc

pub failing_of_first : (equations : Equations) (packet : Packet) (check : ℕ) → first_failing_check equations packet ≡ Some check → IsFirstFailing equations packet check
unfolding first_failing_check
failing_of_first equations packet check is =
    let found = found_first (λ c. not (meets equations packet c)) equations.checks 0 check is in
    record {
      below = omega (arith, found.below);
      fails = fails_from equations packet check found.here;
      first = λ earlier before. meets_of equations packet earlier (found.before earlier (omega arith) before);
    }

pub passing_of : (equations : Equations) (packet : Packet) → passes equations packet ≡ true → Passes equations packet
unfolding first_failing_check
passing_of equations packet is = λ check below.
    let none = none_before (λ c. not (meets equations packet c)) equations.checks 0 check is (omega arith) (omega arith) in
    meets_of equations packet check none

-- ---- the packets of a generation that pass

abbrev pub is_passing : Equations → ℕ → Packet → Bool
is_passing equations generation packet = (packet.generation == generation) && passes equations packet
