-- The two passes of a small basis, for the tests: taken out of its list.
use Rattle.std.proofs.Common.{◌≡◌, ℕ, ◌+◌, List, [], ◌∷◌, ◌++◌, length, get_or, ap, ◌∙◌, subst, arith, append_assoc}
use Rattle.std.specs.Prelude.{Option, Some}
use Rattle.std.specs.Option.{option_to_list}
use Rattle.std.proofs.lemmas.List.{length-append, get_or_at}
use Rattle.shared_basis.specs.Bases.{BasisValue, PassValue}
use Rattle.shared_basis.specs.Passes.{AreNewPasses, IsNewPass}
use Rattle.shared_basis.proofs.GatherLemmas.{popped}

-- the passes of a new basis, the last one taken out first
pub two_new : (basis : BasisValue) (room : ℕ) (list rest left : List PassValue) (o p : Option PassValue) (second first : PassValue)
    → AreNewPasses basis 2 room list → list ≡ rest ++ option_to_list o → o ≡ Some second → rest ≡ left ++ option_to_list p → p ≡ Some first
    → IsNewPass basis 0 room first × IsNewPass basis 1 room second
two_new basis room list rest left o p second first new out is out' is' =
    let one : list ≡ rest ++ second ∷ [] = popped list rest o second out is in
    let two : rest ≡ left ++ first ∷ [] = popped rest left p first out' is' in
    let long : length list ≡ length rest + length (second ∷ []) = ap length one ∙ length-append rest (second ∷ []) in
    let long' : length rest ≡ length left + length (first ∷ []) = ap length two ∙ length-append left (first ∷ []) in
    let count : length list ≡ 2 = new.count in
    let whole : list ≡ left ++ first ∷ second ∷ [] =
    one ∙ (ap (λ (l : List PassValue). l ++ second ∷ []) two ∙ append_assoc left (first ∷ []) (second ∷ [])) in
    let at_one : get_or list 1 second ≡ second = ap (λ (l : List PassValue). get_or l 1 second) one ∙ get_or_at rest second [] second 1 (omega arith) in
    let at_none : get_or list 0 first ≡ first =
    ap (λ (l : List PassValue). get_or l 0 first) whole ∙ get_or_at left first (second ∷ []) first 0 (omega arith) in (
      subst (λ (q : PassValue). IsNewPass basis 0 room q) at_none (new.each 0 first (omega arith)),
      subst (λ (q : PassValue). IsNewPass basis 1 room q) at_one (new.each 1 second (omega arith)),
    )
