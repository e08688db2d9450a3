-- Bases closed one after another, the last one first.
use Rattle.std.proofs.Common.{◌≡◌, ℕ, ◌+◌, ◌<◌, suc, zero, List, [], ◌∷◌, ◌++◌, length, take, reverse, get_or, sym, ap, ◌∙◌, subst, arith}
use Rattle.std.proofs.lemmas.List.{length_push, length-reverse, reverse-append}
use Rattle.shared_basis.specs.declared.params.Closed.{Closed}
use Rattle.shared_basis.specs.Bases.{BasisValue, PassValue}
use Rattle.shared_basis.specs.Close.{AreAllPasses, IsCloseOf}
use Rattle.shared_basis.specs.Passes.{IsPassOf}
use Rattle.receive_pass.specs.declared.worker.Worker.{Worker}
use Rattle.shared_reception.specs.Steps.{AreOfGeneration, HaveAllPasses, HaveGained, IsClosedOf}
use Rattle.shared_reception.proofs.Lists.{popped_front}

-- the bases that are left are the first ones, workers have their passes of these, and the others were closed, each as it should be
pub record AreClosedFrom (P : ℕ → Closed → Type 0) (bases : List BasisValue) (workers : List Worker) (left : List BasisValue) (now : List Worker) (list : List Closed) : Type 0 where
  pub left_is : left ≡ take (length left) bases
  pub counts : length left + length list ≡ length bases
  pub workers_are : length now ≡ length workers
  pub passes : (number : ℕ) (other : Worker) → number < length workers
      → (get_or now number other).passes.items ≡ take (length left) (get_or workers number other).passes.items
  pub closed : (at : ℕ) (other : Closed) → at < length list → P (length left + at) (get_or (reverse list) at other)

-- the basis and the passes that were taken are those of one generation
pub record AreTaken (bases : List BasisValue) (workers : List Worker) (rest : List BasisValue) (basis : BasisValue) (after : List Worker) (passes : List PassValue) : Type 0 where
  pub within : length rest < length bases
  pub rest_is : rest ≡ take (length rest) bases
  pub basis_is : (other : BasisValue) → basis ≡ get_or bases (length rest) other
  pub of_generation : AreOfGeneration (length rest) workers passes
  pub after_are : length after ≡ length workers
  pub left : (number : ℕ) (other : Worker) → number < length workers
      → (get_or after number other).passes.items ≡ take (length rest) (get_or workers number other).passes.items

pub taken : (P : ℕ → Closed → Type 0) (bases left rest : List BasisValue) (basis : BasisValue) (workers now after : List Worker) (passes : List PassValue) (list : List Closed)
    → HaveAllPasses bases workers → AreClosedFrom P bases workers left now list → left ≡ rest ++ basis ∷ [] → HaveGained passes after now
    → AreTaken bases workers rest basis after passes
taken P bases left rest basis workers now after passes list have from popped gained =
    let one_less : length left ≡ length rest + 1 = ap length popped ∙ length_push rest basis in
    let within : length rest < length bases = let counted = from.counts in omega arith in
    let front : take (length rest + 1) bases ≡ rest ++ basis ∷ [] = ap (λ (n : ℕ). take n bases) (sym one_less) ∙ sym from.left_is ∙ popped in
    let same : length after ≡ length workers = sym gained.count ∙ from.workers_are in
    let pair : (number : ℕ) (worker : Worker) (pass : PassValue) → number < length workers
    → ((get_or after number worker).passes.items ≡ take (length rest) (get_or workers number worker).passes.items)
    × (get_or passes number pass ≡ get_or (get_or workers number worker).passes.items (length rest) pass) =
    λ number worker pass low.
    let there : number < length after = subst (λ (n : ℕ). number < n) (sym same) low in
    let low_enough : length rest < length (get_or workers number worker).passes.items = omega (arith, have.counts number worker low) in
    popped_front (get_or workers number worker).passes.items (get_or after number worker).passes.items (length rest) (get_or passes number pass) pass low_enough
    (ap (λ (n : ℕ). take n (get_or workers number worker).passes.items) (sym one_less) ∙ sym (from.passes number worker low)
    ∙ (gained.each number worker pass there).passes) in
    record {
      within = within;
      rest_is = (popped_front bases rest (length rest) basis basis within front).0;
      basis_is = λ other. (popped_front bases rest (length rest) basis other within front).1;
      of_generation = record {
        count = gained.passes_are ∙ same;
        each = λ number worker pass low. (pair number worker pass low).1;
      };
      after_are = same;
      left = λ number other low.
          elim passes as (λ l. HaveGained l after now → (get_or after number other).passes.items ≡ take (length rest) (get_or workers number other).passes.items) [
            | [] ↦ λ gained'. absurd (omega (arith, gained'.passes_are))
            | p ∷ ps ↦ λ _. (pair number other p low).0
          ] gained;
    }

-- they are all passes of that basis
pub all_passes : (bases rest : List BasisValue) (basis : BasisValue) (workers after : List Worker) (passes : List PassValue) → HaveAllPasses bases workers
    → AreTaken bases workers rest basis after passes → AreAllPasses basis passes
all_passes bases rest basis workers after passes have took = record {
  count = took.of_generation.count ∙ sym (have.for_all (length rest) basis took.within) ∙ ap (λ (b : BasisValue). b.parameters.passes) (sym (took.basis_is basis));
  each = λ number other low.
      let there : number < length workers = subst (λ (n : ℕ). number < n) took.of_generation.count low in
      elim workers as (λ l. HaveAllPasses bases l → AreOfGeneration (length rest) l passes → number < length l
      → IsPassOf basis (get_or passes number other) × ((get_or passes number other).number ≡ number)) [
        | [] ↦ λ _ _ none. absurd (omega arith)
        | w ∷ ws ↦ λ have' of' in_range.
            subst (λ (b : BasisValue). IsPassOf b (get_or passes number other) × ((get_or passes number other).number ≡ number)) (sym (took.basis_is basis))
            (subst (λ (p : PassValue). IsPassOf (get_or bases (length rest) basis) p × (p.number ≡ number)) (sym (of'.each number w other in_range))
            (have'.each number (length rest) w basis other in_range took.within))
      ] have took.of_generation there;
}

closed_at : (P : ℕ → Closed → Type 0) (n : ℕ) (closed : Closed) (others : List Closed)
    → P n closed → ((at : ℕ) (other : Closed) → at < length others → P (n + 1 + at) (get_or others at other))
    → (at : ℕ) (other : Closed) → at < length (closed ∷ others) → P (n + at) (get_or (closed ∷ others) at other)
closed_at P n closed others first rest zero other low = subst (λ (m : ℕ). P m closed) (omega arith) first
closed_at P n closed others first rest (suc at) other low =
    let along : n + 1 + at ≡ n + suc at = omega arith in
    subst (λ (m : ℕ). P m (get_or others at other)) along (rest at other (omega arith))

-- what closing the basis that was taken gives
pub closed_as : (bases rest : List BasisValue) (basis : BasisValue) (workers after : List Worker) (passes : List PassValue) (closed : Closed)
    → AreTaken bases workers rest basis after passes → IsCloseOf basis passes closed → IsClosedOf bases workers (length rest) closed
closed_as bases rest basis workers after passes closed took closes = record {
  passes = passes;
  are = took.of_generation;
  closes = λ other. subst (λ (b : BasisValue). IsCloseOf b passes closed) (took.basis_is other) closes;
}

-- the next basis is closed
pub closed_more : (P : ℕ → Closed → Type 0) (bases left rest : List BasisValue) (basis : BasisValue) (workers now after : List Worker) (passes : List PassValue) (list longer : List Closed)
    (closed : Closed) → AreClosedFrom P bases workers left now list → left ≡ rest ++ basis ∷ [] → AreTaken bases workers rest basis after passes → P (length rest) closed
    → longer ≡ list ++ closed ∷ [] → AreClosedFrom P bases workers rest after longer
closed_more P bases left rest basis workers now after passes list longer closed from popped took closes is =
    let one_less : length left ≡ length rest + 1 = ap length popped ∙ length_push rest basis in
    let count : length longer ≡ length list + 1 = ap length is ∙ length_push list closed in
    let turned : reverse longer ≡ closed ∷ reverse list = ap reverse is ∙ reverse-append list (closed ∷ []) in
    record {
      left_is = took.rest_is;
      counts = let counted = from.counts in omega arith;
      workers_are = took.after_are;
      passes = took.left;
      closed = λ at other low.
          let turned_count = length-reverse list in
          subst (λ (l : List Closed). P (length rest + at) (get_or l at other)) (sym turned)
          (closed_at P (length rest) closed (reverse list) closes
          (λ at' other' in_range. subst (λ (m : ℕ). P (m + at') (get_or (reverse list) at' other')) one_less
          (from.closed at' other' (omega arith))) at other (omega arith));
    }
