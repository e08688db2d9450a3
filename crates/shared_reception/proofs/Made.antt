-- Bases made one after another, and their passes in the hands of workers.
use Rattle.std.proofs.Common.{◌≡◌, ℕ, ◌+◌, ◌<◌, List, [], ◌∷◌, ◌++◌, length, get_or, sym, ap, ◌∙◌, subst, arith, inl, inr}
use Rattle.std.proofs.lemmas.List.{get_or_append_left, get_or_push, length_push}
use Rattle.std.proofs.lemmas.Bool.{cases_eq}
use Rattle.linear_spec.specs.declared.equations.Equations.{Equations}
use Rattle.table_rows.specs.Seats.{IsMadeWith}
use Rattle.shared_basis.specs.Bases.{BasisValue, PassValue}
use Rattle.shared_basis.specs.Passes.{AreNewPasses, IsNewPass}
use Rattle.receive_pass.specs.declared.worker.Worker.{Worker}
use Rattle.shared_reception.specs.Steps.{AreMadeWith, AreNewOf, HaveBases, HaveGained}
use Rattle.shared_reception.proofs.Lists.{each_push}

-- one basis more, and its pass
new_push : (bases : List BasisValue) (basis : BasisValue) (number room : ℕ) (passes : List PassValue) (pass : PassValue) → AreNewOf bases number room passes
    → IsNewPass basis number room pass → AreNewOf (bases ++ basis ∷ []) number room (passes ++ pass ∷ [])
new_push bases basis number room passes pass new next = record {
  count = length_push passes pass ∙ ap (λ (n : ℕ). n + 1) new.count ∙ sym (length_push bases basis);
  each = λ at b p low.
      elim (cases_eq at (length bases)) as (λ _. IsNewPass (get_or (bases ++ basis ∷ []) at b) number room (get_or (passes ++ pass ∷ []) at p)) [
        | inl here ↦
            subst (λ (x : BasisValue). IsNewPass x number room (get_or (passes ++ pass ∷ []) at p)) (sym (get_or_push bases basis b at (sym here)))
            (subst (λ (y : PassValue). IsNewPass basis number room y) (sym (get_or_push passes pass p at (new.count ∙ sym here))) next)
        | inr else ↦
            let below : at < length bases = omega (arith, else, length_push bases basis) in
            let there : at < length passes = subst (λ (n : ℕ). at < n) (sym new.count) below in
            subst (λ (x : BasisValue). IsNewPass x number room (get_or (passes ++ pass ∷ []) at p)) (sym (get_or_append_left bases (basis ∷ []) b at below))
            (subst (λ (y : PassValue). IsNewPass (get_or bases at b) number room y) (sym (get_or_append_left passes (pass ∷ []) p at there)) (new.each at b p below))
      ];
}

-- one basis more, whose passes were handed out
pub bases_more : (equations : Equations) (room : ℕ) (bases after : List BasisValue) (basis : BasisValue) (passes : List PassValue) (workers before now : List Worker)
    → HaveBases equations room bases workers before
    → IsMadeWith basis.parameters (length bases) equations.k equations.s (length workers) equations → AreNewPasses basis (length workers) room passes
    → HaveGained passes before now → after ≡ bases ++ basis ∷ [] → HaveBases equations room after workers now
bases_more equations room bases after basis passes workers before now have made new gained is = record {
  made = subst (AreMadeWith equations (length workers)) (sym is)
      (each_push (λ (generation : ℕ) (b : BasisValue). IsMadeWith b.parameters generation equations.k equations.s (length workers) equations) bases basis have.made made);
  count = gained.count ∙ have.count;
  passes = λ number other low.
      let there : number < length before = subst (λ (n : ℕ). number < n) (sym have.count) low in
      subst (λ (l : List BasisValue). AreNewOf l number room (get_or now number other).passes.items) (sym is)
      (elim passes as (λ l. AreNewPasses basis (length workers) room l → HaveGained l before now → AreNewOf (bases ++ basis ∷ []) number room (get_or now number other).passes.items) [
        | [] ↦ λ new' gained'. absurd (omega (arith, gained'.passes_are))
        | p ∷ ps ↦ λ new' gained'.
            subst (λ (l : List PassValue). AreNewOf (bases ++ basis ∷ []) number room l) (sym (gained'.each number other p there).passes)
            (new_push bases basis number room (get_or before number other).passes.items (get_or (p ∷ ps) number p) (have.passes number other low) (new'.each number p low))
      ] new gained);
  inboxes = λ number other low.
      let there : number < length before = subst (λ (n : ℕ). number < n) (sym have.count) low in
      elim passes as (λ l. HaveGained l before now → (get_or now number other).inbox ≡ (get_or workers number other).inbox) [
        | [] ↦ λ gained'. absurd (omega (arith, gained'.passes_are))
        | p ∷ ps ↦ λ gained'. (gained'.each number other p there).inbox ∙ have.inboxes number other low
      ] gained;
}
