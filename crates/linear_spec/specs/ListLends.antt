-- What a `List` ends as, where a `&mut` to its items is returned.
use Rattle.std.specs.Prelude.{ℕ, List, Option}
use Rattle.std.specs.Borrow.{Lends, LendsIf, Fml, RattleType, MutBor, Array}
use Rattle.linear_spec.specs.List.{ListValue, with_item, with_items}
use Rattle.linear_spec.specs.contracts.list.List.{the_row}

module _ (T : RattleType) (l : MutBor (ListValue T.Denot)) where
  -- once the borrow ends, the items are those that it shows last
  abbrev pub lends_slice : MutBor (List T.Denot) → Fml
  lends_slice r = Lends (the_row T) (Array T 0) l r (with_items l.now)

  -- once the borrow ends, the place has the last value written through it; at `None` the list stays as it is
  abbrev pub lends_item : ℕ → Option (MutBor T.Denot) → Fml
  lends_item at r = LendsIf (the_row T) T l r (with_item l.now at) l.now
