-- A word that is read again is the word that was read, and changes nothing.
use Rattle.std.proofs.Common.{◌≡◌, ℕ, [], get_or, set, sym, ap, ◌∙◌}
use Rattle.std.specs.Prelude.{Option, Some, None}
use Rattle.std.proofs.lemmas.List.{set-get_or}
use Rattle.table_rows.specs.declared.view.Front.{Front}
use Rattle.table_rows.specs.Views.{with_word, word_read}
use Rattle.table_rows.proofs.Fronts.{Row}

pub read_again : (front : Front) (n place word : ℕ) → word_read front.read n place ≡ Some word → with_word front n place word ≡ front
read_again front n place word e =
    let row : Row = get_or front.read n [] in
    ap (λ (o : Option ℕ). record front { read = set front.read n (set row place o) }) (sym e)
    ∙ (λ i. record front { read = (ap (λ (r : Row). set front.read n r) (set-get_or row place None) ∙ set-get_or front.read n []) i })
