-- Workers and passes that change one after another.
use Rattle.std.proofs.Common.{◌≡◌, ◌≢◌, ℕ, ◌+◌, ◌<◌, ◌≤◌, List, [], ◌∷◌, ◌++◌, length, get_or, set, sym, refl, ap, ◌∙◌, subst, arith, inl, inr}
use Rattle.std.proofs.lemmas.List.{get_or_append_left, get_or_default, get_or_push, get_or-set_other, get_or-set_same, length-set}
use Rattle.std.proofs.lemmas.Bool.{cases_eq}
use Rattle.shared_basis.specs.Bases.{PassValue}
use Rattle.receive_pass.specs.declared.worker.Worker.{Worker}
use Rattle.shared_reception.specs.Steps.{HasGained, HaveGained}

-- those below this number have changed as they should, and the others are as before
pub record AreChangedBelow {X : Type 0} (R : ℕ → X → X → Type 0) (count : ℕ) (before after : List X) : Type 0 where
  pub length_is : length after ≡ length before
  pub changed : (number : ℕ) (other : X) → number < count → R number (get_or before number other) (get_or after number other)
  pub left : (number : ℕ) (other : X) → count ≤ number → get_or after number other ≡ get_or before number other

pub changed_none : {X : Type 0} (R : ℕ → X → X → Type 0) (before : List X) → AreChangedBelow R 0 before before
changed_none R before = record { length_is = refl; changed = λ number other low. absurd (omega arith); left = λ number other high. refl }

-- the next one changes
pub changed_more : {X : Type 0} (R : ℕ → X → X → Type 0) (count : ℕ) (before now : List X) (new : X) → AreChangedBelow R count before now
    → count < length before → ((other : X) → R count (get_or before count other) new) → AreChangedBelow R (count + 1) before (set now count new)
changed_more {X} R count before now new below low next =
    let there : count < length now = subst (λ (n : ℕ). count < n) (sym below.length_is) low in record {
      length_is = length-set now count new ∙ below.length_is;
      changed = λ number other in_range.
          elim (cases_eq number count) as (λ _. R number (get_or before number other) (get_or (set now count new) number other)) [
            | inl here ↦ subst (λ (n : ℕ). R n (get_or before n other) (get_or (set now count new) n other)) (sym here)
                (subst (λ (w : X). R count (get_or before count other) w) (sym (get_or-set_same now count new other there)) (next other))
            | inr else ↦ subst (λ (w : X). R number (get_or before number other) w) (sym (get_or-set_other now count number new other else))
                (below.changed number other (omega arith))
          ];
      left = λ number other high.
          let else : number ≢ count = λ e. absurd (omega (arith, e)) in
          get_or-set_other now count number new other else ∙ below.left number other (omega arith);
    }

-- what held of each that has changed holds in other words
pub changed_as : {X : Type 0} (R Q : ℕ → X → X → Type 0) (count : ℕ) (before now : List X)
    → ((number : ℕ) (x y : X) → number < count → R number x y → Q number x y) → AreChangedBelow R count before now → AreChangedBelow Q count before now
changed_as R Q count before now says below = record {
  length_is = below.length_is;
  changed = λ number other low. says number (get_or before number other) (get_or now number other) low (below.changed number other low);
  left = below.left;
}

-- a worker has got the pass at its place
abbrev pub GotAt : List PassValue → ℕ → Worker → Worker → Type 0
GotAt passes number before after = (pass : PassValue) → HasGained (get_or passes number pass) before after

-- a worker has given the pass at its place
abbrev pub GaveAt : List PassValue → ℕ → Worker → Worker → Type 0
GaveAt passes number before after = (pass : PassValue) → HasGained (get_or passes number pass) after before

pub got_more : (passes : List PassValue) (pass : PassValue) (count : ℕ) (before now : List Worker) (new other : Worker) → AreChangedBelow (GotAt passes) count before now
    → count < length before → ((d : PassValue) → pass ≡ get_or passes count d) → new.passes.items ≡ (get_or now count other).passes.items ++ pass ∷ []
    → new.inbox ≡ (get_or now count other).inbox → AreChangedBelow (GotAt passes) (count + 1) before (set now count new)
got_more passes pass count before now new other below low is gained same =
    changed_more (GotAt passes) count before now new below low (λ any d.
    let there : count < length now = subst (λ (n : ℕ). count < n) (sym below.length_is) low in
    let was : get_or now count other ≡ get_or before count any = get_or_default now count other any there ∙ below.left count any (omega arith) in
    record {
      passes = gained ∙ ap (λ (w : Worker). w.passes.items ++ pass ∷ []) was ∙ ap (λ (p : PassValue). (get_or before count any).passes.items ++ p ∷ []) (is d);
      inbox = same ∙ ap (λ (w : Worker). w.inbox) was;
    })

pub gave_more : (passes after : List PassValue) (pass : PassValue) (count : ℕ) (before now : List Worker) (new other : Worker)
    → AreChangedBelow (GaveAt passes) count before now → count < length before → length passes ≡ count → after ≡ passes ++ pass ∷ []
    → (get_or now count other).passes.items ≡ new.passes.items ++ pass ∷ [] → (get_or now count other).inbox ≡ new.inbox
    → AreChangedBelow (GaveAt after) (count + 1) before (set now count new)
gave_more passes after pass count before now new other below low counted is gave same =
    let there : count < length now = subst (λ (n : ℕ). count < n) (sym below.length_is) low in
    let earlier : AreChangedBelow (GaveAt after) count before now =
    changed_as (GaveAt passes) (GaveAt after) count before now (λ number x y in_range gained d.
    let within : number < length passes = omega arith in
    let at : get_or passes number d ≡ get_or after number d =
    sym (get_or_append_left passes (pass ∷ []) d number within) ∙ ap (λ (l : List PassValue). get_or l number d) (sym is) in
    subst (λ (p : PassValue). HasGained p y x) at (gained d)) below in
    changed_more (GaveAt after) count before now new earlier low (λ any d.
    let was : get_or now count other ≡ get_or before count any = get_or_default now count other any there ∙ below.left count any (omega arith) in
    let mine : pass ≡ get_or after count d =
    sym (get_or_push passes pass d count counted) ∙ ap (λ (l : List PassValue). get_or l count d) (sym is) in
    record {
      passes = ap (λ (w : Worker). w.passes.items) (sym was) ∙ gave ∙ ap (λ (p : PassValue). new.passes.items ++ p ∷ []) mine;
      inbox = ap (λ (w : Worker). w.inbox) (sym was) ∙ same;
    })

pub got_all : (passes : List PassValue) (count : ℕ) (before now : List Worker) → AreChangedBelow (GotAt passes) count before now → length before ≤ count
    → length passes ≡ length before → HaveGained passes before now
got_all passes count before now below all same = record {
  count = below.length_is;
  passes_are = same;
  each = λ number worker pass low. below.changed number worker (omega arith) pass;
}

pub gave_all : (passes : List PassValue) (count : ℕ) (before now : List Worker) → AreChangedBelow (GaveAt passes) count before now → length before ≡ count
    → length passes ≡ count → HaveGained passes now before
gave_all passes count before now below all same = record {
  count = sym below.length_is;
  passes_are = same ∙ sym all ∙ sym below.length_is;
  each = λ number worker pass low.
      let within : number < count = let counted = below.length_is in omega arith in
      below.changed number worker within pass;
}
