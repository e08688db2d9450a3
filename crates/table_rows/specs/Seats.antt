-- What contracts see of a table and of seats at it: which table it is, its parameters, and the view of a seat.
use Rattle.std.specs.Prelude.{◌≡◌, ◌≢◌, ◌≤◌, ℕ}
use Rattle.atomic_table.specs.Seated.{TableId}
use Rattle.linear_spec.specs.declared.equations.Equations.{Equations}
use Rattle.table_rows.specs.declared.view.Parameters.{Parameters}
use Rattle.table_rows.specs.declared.view.Sight.{Sight}
use Rattle.table_rows.specs.declared.view.CallerView.{CallerView}
use Rattle.table_rows.specs.declared.view.FounderView.{FounderView}
use Rattle.table_rows.specs.declared.exchange.Exchanged.{Exchanged}
use Rattle.table_rows.specs.declared.exchange.Exchanged.TheVariants.{Won, Lost}
use Rattle.table_rows.specs.Layout.{basis_length}
use Rattle.table_rows.specs.Steps.{after_win, after_found}

-- a table
pub record TableValue : Type 0 where
  pub table : TableId
  pub parameters : Parameters

-- a seat with a view
pub record SeatValue (V : Type 0) : Type 0 where
  pub table : TableId
  pub view : V

-- the words that a table was made with, for these parameters, and the numbers k and s that it keeps
pub record IsTable (id : TableId) (p : Parameters) (k s : ℕ) : Type 0 where
  pub same_k : k ≡ p.k
  pub same_s : s ≡ p.s
  pub some_passes : 1 ≤ p.passes
  pub few_passes : p.passes ≤ 16
  pub words : id.words ≡ basis_length k s p.passes
  pub slots : id.slots ≡ 0

-- the seat is at this table, and agrees with it on the parameters
pub record IsCallerAt (t : TableValue) (seat : SeatValue CallerView) : Type 0 where
  pub table : seat.table ≡ t.table
  pub parameters : seat.view.sight.parameters ≡ t.parameters

pub record IsFounderAt (t : TableValue) (seat : SeatValue FounderView) : Type 0 where
  pub table : seat.table ≡ t.table
  pub parameters : seat.view.sight.parameters ≡ t.parameters

pub record IsNoteAt (t : TableValue) (seat : SeatValue Sight) : Type 0 where
  pub table : seat.table ≡ t.table
  pub parameters : seat.view.parameters ≡ t.parameters

-- the parameters that a table is made with
pub record IsMadeWith (p : Parameters) (g k s passes : ℕ) (equations : Equations) : Type 0 where
  pub same_generation : p.generation ≡ g
  pub same_k : p.k ≡ k
  pub same_s : p.s ≡ s
  pub same_passes : p.passes ≡ passes
  pub same_equations : p.equations.value ≡ equations

-- what an exchange did to a caller's view
abbrev pub IsExchanged : CallerView → CallerView → Exchanged → Type 0
IsExchanged before after Won = after ≡ after_win before
IsExchanged before after (Lost region) = (region ≢ 0) × (after ≡ after_found before region)
