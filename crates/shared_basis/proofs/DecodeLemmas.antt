-- Records and rows that are taken out of words, one region after another.
use Rattle.std.proofs.Common.{◌≡◌, ◌≢◌, ℕ, ◌+◌, ◌<◌, ◌≤◌, List, [], ◌∷◌, ◌++◌, length, map, take, get_or, sym, refl, ap, ◌∙◌, subst, arith, eqb-true, length-append}
use Rattle.std.specs.Prelude.{true, not, ◌==◌}
use Rattle.std.specs.List.{All}
use Rattle.std.proofs.lemmas.List.{get_or-take, get_or_at, length-take-le, map_push, take_more}
use Rattle.std.proofs.lemmas.List.Sums.{passes_at_first, prefix_len-le-length}
use mathlib.Core.Logic.{dite}
use native.Mathlib.Decide.{dec_le}
use Rattle.linear_spec.specs.declared.packet.Packet.{Packet}
use Rattle.table_rows.specs.Layout.{length_of}
use Rattle.shared_basis.specs.declared.params.Params.{Params}
use Rattle.shared_basis.specs.Decoding.{AreBlanksFor, IsBlankFor}
use Rattle.shared_basis.proofs.HistoryLemmas.{all_earlier}

module _ (k n : ℕ) (words : List ℕ) (enough : k ≤ length words) where
  directory_long : length (take k words) ≡ k
  directory_long = length-take-le k words enough

  pub directory_most : length_of k words ≤ k
  directory_most = subst (λ m. length_of k words ≤ m) directory_long (prefix_len-le-length (λ word. not (word == 0)) (take k words))

  -- a word that is not 0 is of the directory, where those before it are
  pub goes_on : n < k → n ≤ length_of k words → get_or words n 0 ≢ 0 → n < length_of k words
  goes_on below within some = dite (dec_le (length_of k words) n)
      (λ past. let here : length_of k words ≡ n = omega arith in
      let long : length (take k words) ≡ k = directory_long in
      let passes : (get_or (take k words) (length_of k words) 0 == 0) ≡ true = passes_at_first (λ word. word == 0) (take k words) 0 (omega arith) in
      absurd (some (sym (get_or-take k words n 0 below) ∙ (ap (λ m. get_or (take k words) m 0) (sym here)
      ∙ eqb-true (get_or (take k words) (length_of k words) 0) 0 passes))))
      (λ not-le. omega arith)

-- the last packet of those that are blank
pub blanks_popped : (params : Params) (count less : ℕ) (before after : List Packet) (packet : Packet) → AreBlanksFor params count before → count ≡ less + 1
    → before ≡ after ++ packet ∷ [] → IsBlankFor params.generation params.k params.s packet × AreBlanksFor params less after
blanks_popped params count less before after packet blanks one popped =
    let P : Packet → Type 0 = IsBlankFor params.generation params.k params.s in
    let all : All P (after ++ packet ∷ []) = subst (λ (l : List Packet). All P l) popped blanks.blank in
    let long : length (after ++ packet ∷ []) ≡ length after + 1 = length-append after (packet ∷ []) in
    let long' : length before ≡ length (after ++ packet ∷ []) = ap length popped in
    let enough : count ≤ length before = blanks.enough in
    let last : P packet = subst P (get_or_at after packet [] packet (length after) refl) (all (length after) packet (omega arith)) in
    (last, record { enough = omega arith; blank = all_earlier P after (packet ∷ []) all })

-- one region more was decoded
pub one_more : {X : Type 0} (f : List ℕ → X) (g : ℕ → List ℕ) (words : List ℕ) (n : ℕ) (before after : List X) (x : X) → n < length words
    → before ≡ map f (map g (take n words)) → after ≡ before ++ x ∷ [] → x ≡ f (g (get_or words n 0)) → after ≡ map f (map g (take (n + 1) words))
one_more f g words n before after x within done put is =
    put ∙ ((λ i. done i ++ is i ∷ [])
    ∙ sym (ap (λ l. map f (map g l)) (take_more words n 0 within)
    ∙ (ap (λ l. map f l) (map_push g (take n words) (get_or words n 0)) ∙ map_push f (map g (take n words)) (g (get_or words n 0)))))
