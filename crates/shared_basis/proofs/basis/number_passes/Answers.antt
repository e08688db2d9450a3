use Rattle.std.proofs.Common.{◌≡◌, ℕ, ◌+◌, ◌-◌, List, [], ◌∷◌, ◌++◌, Option, sym, ap, ◌∙◌, subst, arith}
use Rattle.table_rows.specs.Seats.{IsCallerAt, SeatValue, TableValue}
use Rattle.table_rows.specs.declared.view.CallerView.{CallerView}
use Rattle.table_rows.specs.Steps.{after_number}
use Rattle.table_rows.specs.Views.{first_sight}
use Rattle.shared_basis.specs.Bases.{BasisValue, PassValue}
use Rattle.shared_basis.specs.Passes.{AreNewPasses, IsNewPass}
use Rattle.shared_basis.proofs.NewPassLemmas.{joined_more, new_more}
use Rattle.shared_basis.proofs.basis.number_passes.Goals as goal

-- a new pass is one of the basis at whose table its seat is
at_basis : (t : TableValue) (seat : SeatValue CallerView) (peer number room : ℕ) (pass : PassValue) → IsCallerAt t seat
    → IsNewPass (record { table = seat.table; parameters = seat.view.sight.parameters; peer = peer }) number room pass
    → IsNewPass (record { table = t.table; parameters = t.parameters; peer = peer }) number room pass
at_basis t seat peer number room pass at is =
    subst (λ (b : BasisValue). IsNewPass b number room pass)
    (λ i. record { table = at.table i; parameters = at.parameters i; peer = peer }) is

pub loop-number-preserved : goal.loop-number-preserved
loop-number-preserved c =
    let t = c.args.table.now in
    let n = c.loop-number.number in
    let before = c.loop-number.invariant in
    let pass = at_basis t c.number-seat.result c.args.params.now.peer n c.args.room c.in_ok-new_pass.field-0 c.number-seat.ensures.caller.0 c.in_ok-new_pass.ensures in
    record {
      founder = c.number-seat.ensures.founder.0;
      numbers = c.number-seat.ensures.founder.1 ∙ ap after_number before.numbers
          ∙ ap (λ (l : List (Option (List (ℕ × ℕ)))). record { sight = first_sight t.parameters; joined = l })
          (joined_more n);
      list = subst (AreNewPasses (record { table = t.table; parameters = t.parameters; peer = c.args.params.now.peer })
          (n + 1) c.args.room) (sym c.in_ok-push.ensures.ok)
          (new_more _ n c.args.room c.loop-number.list.items c.in_ok-new_pass.field-0 before.list pass);
    }

pub returns : goal.returns
returns c =
    let t = c.args.table.now in
    let n = c.loop-number.number in
    let basis : BasisValue = record { table = t.table; parameters = t.parameters; peer = c.args.params.now.peer } in
    let some = c.requires.basis.parameters.some_passes in
    let same = c.requires.basis.passes_are in
    let last_number : c.args.passes - 1
    ≡ n = let end = c.loop-number.auto.number-end in let past = c.loop-number-test.false in omega arith in
    let all : n + 1 ≡ c.args.passes = omega arith in
    let pass = at_basis t c.number-seat-2.result c.args.params.now.peer n c.args.room c.in_ok-last.last c.number-seat-2.ensures.caller.0
    (subst (λ (number : ℕ). IsNewPass
    (record { table = c.number-seat-2.result.table; parameters = c.number-seat-2.result.view.sight.parameters; peer = c.args.params.now.peer })
    number c.args.room c.in_ok-last.last) last_number c.in_ok-last.ensures) in
    subst (AreNewPasses basis c.args.passes c.args.room) (sym c.in_ok-push-2.ensures.ok)
    (subst (λ (count : ℕ). AreNewPasses basis count c.args.room (c.loop-number.list.items ++ c.in_ok-last.last ∷ [])) all
    (new_more basis n c.args.room c.loop-number.list.items c.in_ok-last.last c.loop-number.invariant.list pass))
