-- The one basis of the tests, its passes, and the workers that have them.
use Rattle.std.proofs.Common.{◌≡◌, ℕ, ◌<◌, List, [], ◌∷◌, ◌++◌, length, get_or, sym, ap, ◌∙◌, subst, arith, inl, inr}
use Rattle.std.specs.Prelude.{IfSome, Option, Some}
use Rattle.std.specs.List.{All}
use Rattle.std.specs.Option.{option_to_list}
use Rattle.std.proofs.Math.Seq.{get_or-append_seam}
use Rattle.std.proofs.lemmas.List.{get_or_append_left, length_push}
use Rattle.std.proofs.lemmas.List.Elements.{All-nil, All-get_or, All-from_get_or, All-pop}
use Rattle.std.proofs.lemmas.Bool.{cases_eq}
use Rattle.linear_spec.specs.declared.equations.Equations.{Equations}
use Rattle.shared_basis.specs.Bases.{BasisValue, PassValue}
use Rattle.shared_basis.specs.Close.{AreAllPasses}
use Rattle.shared_basis.specs.Passes.{IsPassOf}
use Rattle.receive_pass.specs.declared.worker.Worker.{Worker}
use Rattle.receive_pass.specs.Workers.{HasReceived, HavePasses, IsReady}
use Rattle.receive_pass.specs.Worked.{AreNumbered, HasPasses, IsForPasses, IsOfFirst}
use Rattle.receive_pass.proofs.Inboxes.{passes_left}

-- what holds at each place holds of all
all_from : {X : Type 0} (P : X → Type 0) (xs : List X) → ((i : ℕ) (d : X) → i < length xs → P (get_or xs i d)) → All P xs
all_from P [] each = All-nil P
all_from P (x ∷ xs) each = All-from_get_or P (x ∷ xs) x (λ i low. each i x low)

-- what was taken out was the last item
pub popped_last : {X : Type 0} (xs ys : List X) (taken : Option X) (x : X) → xs ≡ ys ++ option_to_list taken → taken ≡ Some x → xs ≡ ys ++ x ∷ []
popped_last xs ys taken x popped found = popped ∙ ap (λ o. ys ++ option_to_list o) found

-- what was taken out is as all are
pub popped_is : {X : Type 0} (P : X → Type 0) (xs ys : List X) (taken : Option X) (x : X) → xs ≡ ys ++ option_to_list taken → taken ≡ Some x → All P xs → P x
popped_is P xs ys taken x popped found are = subst (λ o. IfSome o P) found (All-pop P xs ys taken popped are).1

-- the others are as all were
pub popped_rest : {X : Type 0} (P : X → Type 0) (xs ys : List X) (taken : Option X) → xs ≡ ys ++ option_to_list taken → All P xs → All P ys
popped_rest P xs ys taken popped are = (All-pop P xs ys taken popped are).0

-- workers that have received still have their passes
pub all_left : (equations : Equations) (bases : List BasisValue) (before after : List Worker) → length after ≡ length before
    → ((at : ℕ) (other : Worker) → at < length before → HasReceived (get_or before at other) (get_or after at other))
    → All (IsReady equations bases) before → All (HasPasses bases) after
all_left equations bases before after same each are = all_from (HasPasses bases) after (λ i d low.
    let there : i < length before = subst (λ (n : ℕ). i < n) same low in
    let worker : Worker = get_or before i d in
    let is_ready = All-get_or (IsReady equations bases) before i d there are in
    passes_left bases (length worker.inbox.items) 0 worker.inbox.items worker.passes.items (get_or after i d).passes.items (omega arith) is_ready.passes_are
    (each i d there).passes)

-- the last of one is the first
alone_last : {X : Type 0} (xs rest : List X) (x : X) → length xs ≡ 1 → xs ≡ rest ++ x ∷ [] → xs ≡ x ∷ []
alone_last xs [] x one popped = popped
alone_last xs (y ∷ rest) x one popped = absurd (omega (arith, one, ap length popped, length_push rest x))

-- a worker's only pass is of the only basis
pub only_pass : (bases : List BasisValue) (passes rest : List PassValue) (pass : PassValue) → length bases ≡ 1 → HavePasses bases 0 passes
    → passes ≡ rest ++ pass ∷ [] → IsOfFirst bases pass
only_pass bases passes rest pass one have popped = λ basis.
    let alone = alone_last passes rest pass (have.count ∙ one) popped in
    subst (λ (l : List PassValue). IsPassOf (get_or bases 0 basis) (get_or l 0 pass)) alone (have.each 0 pass basis (omega (arith, one)))

-- the next pass goes to its number
pub numbered_push : (bases : List BasisValue) (passes : List PassValue) (pass : PassValue) → AreNumbered bases passes → IsOfFirst bases pass
    → pass.number ≡ length passes → AreNumbered bases (passes ++ pass ∷ [])
numbered_push bases passes pass numbered first number_is = record {
  each = λ at other low.
      elim (cases_eq at (length passes))
      as (λ _. IsOfFirst bases (get_or (passes ++ pass ∷ []) at other) × ((get_or (passes ++ pass ∷ []) at other).number ≡ at)) [
        | inl here ↦ subst (λ (n : ℕ). IsOfFirst bases (get_or (passes ++ pass ∷ []) n other) × ((get_or (passes ++ pass ∷ []) n other).number ≡ n)) (sym here)
            (subst (λ (p : PassValue). IsOfFirst bases p × (p.number ≡ length passes)) (sym (get_or-append_seam passes pass [] other)) (first, number_is))
        | inr else ↦
            let below : at < length passes = omega (arith, else, length_push passes pass) in
            subst (λ (p : PassValue). IsOfFirst bases p × (p.number ≡ at)) (sym (get_or_append_left passes (pass ∷ []) other at below)) (numbered.each at other below)
      ];
}

-- as many numbered passes as the basis has are all its passes
pub all_passes : (bases rest : List BasisValue) (basis : BasisValue) (passes : List PassValue) (count : ℕ) → length bases ≡ 1 → bases ≡ rest ++ basis ∷ []
    → IsForPasses count bases → AreNumbered bases passes → length passes ≡ count → AreAllPasses basis passes
all_passes bases rest basis passes count one popped made numbered length_is =
    let alone = alone_last bases rest basis one popped in record {
      count = length_is ∙ sym (subst (λ (l : List BasisValue). (get_or l 0 basis).parameters.passes ≡ count) alone (made basis));
      each = λ number other low. (
        subst (λ (l : List BasisValue). IsPassOf (get_or l 0 basis) (get_or passes number other)) alone ((numbered.each number other low).0 basis),
        (numbered.each number other low).1,
      );
    }
