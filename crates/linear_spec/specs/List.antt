-- What a contract sees of a `List`.
use Rattle.std.specs.Prelude.{ℕ, List, length, slice_set, refl}
use Rattle.std.specs.List.{refill}
use Rattle.std.specs.Coded.{Coded, code_by, coded×, coded_ℕ, coded_list}

-- the items in order, and how many more go in with no allocation
pub record ListValue (T : Type 0) : Type 0 where
  pub items : List T
  pub spare : ℕ

-- a list is stored as the pair of its fields
abbrev pub list_code : {T : Type 0} → Coded T → Coded (ListValue T)
list_code {T} code =
    code_by (List T × ℕ) (coded× (coded_list code) coded_ℕ) (λ l. (l.items, l.spare))
    (λ p. record { items = p.0; spare = p.1 }) (λ _. refl)

module _ {T : Type 0} where
  -- l after a write of the item at a place
  abbrev pub with_item : ListValue T → ℕ → T → ListValue T
  with_item l at item = record l { items = slice_set l.items at item }

  -- l after a write of its items as a slice, which keeps the length
  abbrev pub with_items : ListValue T → List T → ListValue T
  with_items l items = record l { items = refill (length l.items) l.items items }
