-- What the founder knows once it has taken passes in, the last one first.
-- p: the parameters. f: the founder's view. given: all passes of the basis. left: those that were not yet taken in. callers: the
-- calls of the others, the last pass first.
use Rattle.std.specs.Prelude.{◌≡◌, ℕ, ◌+◌, List, [], ◌∷◌, ◌++◌, length, map, reverse, slice_index_or, Some, None}
use Rattle.std.specs.List.{All}
use Rattle.basis_core.specs.declared.trace.CallerTrace.{CallerTrace}
use Rattle.basis_core.specs.Legal.{IsLegalHistory}
use Rattle.basis_core.specs.Merge.{only}
use Rattle.table_rows.specs.declared.view.Front.{Front}
use Rattle.table_rows.specs.declared.view.FounderView.{FounderView}
use Rattle.table_rows.specs.declared.view.Parameters.{Parameters}
use Rattle.table_rows.specs.Closing.{StandsAmong}
use Rattle.table_rows.specs.Good.{offers_of}
use Rattle.table_rows.specs.Seats.{SeatValue}
use Rattle.table_rows.specs.Steps.{IsSoundView}
use Rattle.table_rows.specs.Views.{IsReadWhole, words_read}
use Rattle.shared_basis.specs.declared.gathering.Parts.{Parts}
use Rattle.shared_basis.specs.Bases.{BasisValue, HasFounder, PassValue}
use Rattle.shared_basis.specs.Close.{caller_of_pass}
use Rattle.shared_basis.specs.Regions.{record_at, records_seen}

-- the parts of a pass: a seat that has read what the pass has seen, its calls, which are legal over that, and the founder's seat
-- where it is with this pass
pub record AreParts (pass : PassValue) (parts : Parts) : Type 0 where
  pub table : parts.seat.table ≡ pass.table
  pub parameters : parts.seat.view.sight.parameters ≡ pass.parameters
  pub number : parts.seat.view.number ≡ pass.number
  pub sound : IsSoundView parts.seat.view
  pub whole : IsReadWhole parts.seat.view.sight.front
  pub seen : pass.seen ≡ records_seen parts.seat.view
  pub founder_is : HasFounder pass.table pass.parameters pass.number parts.founder
  pub caller : caller_of_pass parts.caller pass
  pub legal : IsLegalHistory pass.parameters.equations.value (only pass.number pass.calls) pass.seen

-- the founder has taken in the pass of this number: its front stands wherever the founder's olds stand, and its own list is
-- under its number
pub record HasTaken (p : Parameters) (f : FounderView) (number : ℕ) (pass : PassValue) : Type 0 where
  pub front : Front
  pub stands : (words : List ℕ) → All (StandsAmong p words) f.sight.olds → StandsAmong p words front
  pub whole : IsReadWhole front
  pub seen : pass.seen ≡ map (record_at p) (words_read front)
  pub own : slice_index_or f.joined number None ≡ Some (offers_of number (words_read front))
  pub number_is : pass.number ≡ number
  pub legal : IsLegalHistory p.equations.value (only number pass.calls) pass.seen

-- the founder has taken in these passes, whose numbers rise from this one
abbrev pub HasTakenFrom : Parameters → FounderView → ℕ → List PassValue → Type 0
HasTakenFrom p f number [] = Unit {0}
HasTakenFrom p f number (pass ∷ passes) = HasTaken p f number pass × HasTakenFrom p f (number + 1) passes

-- the callers are these passes, one by one
abbrev pub AreCallersOf : List CallerTrace → List PassValue → Type 0
AreCallersOf [] [] = Unit {0}
AreCallersOf [] (pass ∷ passes) = ⊥
AreCallersOf (caller ∷ callers) [] = ⊥
AreCallersOf (caller ∷ callers) (pass ∷ passes) = caller_of_pass caller pass × AreCallersOf callers passes

-- of the given passes these are left, and the founder has taken in the others
pub record HasGathered (basis : BasisValue) (given : List PassValue) (founder : SeatValue FounderView) (left : List PassValue) (callers : List CallerTrace) : Type 0 where
  pub table : founder.table ≡ basis.table
  pub parameters : founder.view.sight.parameters ≡ basis.parameters
  pub count : length founder.view.joined ≡ basis.parameters.passes
  pub done : List PassValue
  pub split : given ≡ left ++ done
  pub taken : HasTakenFrom basis.parameters founder.view (length left) done
  pub callers_are : AreCallersOf (reverse callers) done
