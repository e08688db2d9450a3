use Rattle.std.proofs.Common.{◌≡◌, ℕ, ◌+◌, ◌<◌, ◌≤◌, sym, ap, ◌∙◌, subst}
use Rattle.table_rows.specs.declared.view.CallerView.{CallerView}
use Rattle.table_rows.specs.declared.view.Parameters.{Parameters}
use Rattle.table_rows.specs.Layout.{place_of}
use Rattle.table_rows.specs.Seats.{SeatValue, TableValue}
use Rattle.table_rows.specs.Steps.{after_write}
use Rattle.table_rows.specs.Views.{as_caller, width_of}
use Rattle.table_rows.proofs.Calls.{caller_at, at_caller, write_allowed}
use Rattle.table_rows.proofs.table.BasisTable.write.Goals as goal

pub place-at-requires-clause-region : goal.place-at-requires-clause-region
place-at-requires-clause-region c =
    let v : CallerView = as_caller c.seat.inside.seat.me.0 in
    let seen : c.args.seat.now.view ≡ v = sym (ap (λ (z : SeatValue CallerView). z.view) c.seat.view_is) in
    let same : v.sight.parameters ≡ c.args.self.now.parameters = sym (ap (λ (u : CallerView). u.sight.parameters) seen) ∙ c.requires.seat.parameters in
    let is : v.draft ≡ c.args.draft = sym (c.requires.draft ∙ ap (λ (u : CallerView). u.draft) seen) in
    subst (λ (q : Parameters). (1 ≤ c.args.draft) × (c.args.draft ≤ q.passes + q.k)) same
    (subst (λ (d : ℕ). (1 ≤ d) × (d ≤ v.sight.parameters.passes + v.sight.parameters.k)) is c.seat.invariant.1.draft)

pub store-requires : goal.store-requires
store-requires c =
    let key : Parameters = c.self.inside.table.shared.key in
    let v : CallerView = as_caller c.seat.inside.seat.me.0 in
    let one = caller_at _ _ _ _ key v c.self.view_is c.seat.view_is c.requires.seat in
    let seen : c.args.seat.now.view ≡ v = sym (ap (λ (z : SeatValue CallerView). z.view) c.seat.view_is) in
    let ours : c.args.self.now.parameters ≡ key = sym (ap (λ (t : TableValue). t.parameters) c.self.view_is) in
    let is : c.args.draft ≡ v.draft = c.requires.draft ∙ ap (λ (u : CallerView). u.draft) seen in
    let lp : c.args.place < width_of key = subst (λ (q : Parameters). c.args.place < width_of q) ours c.requires.place in
    let there : c.place-at.result ≡ place_of key.k key.s v.draft c.args.place =
    c.place-at.ensures.value ∙ (ap (λ (q : Parameters). place_of q.k q.s c.args.draft c.args.place) ours ∙ ap (λ (d : ℕ). place_of key.k key.s d c.args.place) is) in
    let within : c.place-at.result < c.self.inside.table.shared.table_id.words = subst (λ (t : TableValue). c.place-at.result < t.table.words) (sym c.self.view_is) c.place-at.ensures.within in
    (one.0, within, write_allowed key _ _ c.place-at.result c.args.place c.args.word c.seat.inside.seat.me c.seat.invariant.0 one.1 lp there)

pub invariant_of-seat : goal.invariant_of-seat
invariant_of-seat c = (c.store.ensures.2.0, c.store.ensures.2.2.shaped)

pub returns-clause-written : goal.returns-clause-written
returns-clause-written c =
    let v : CallerView = as_caller c.seat.inside.seat.me.0 in
    let seen : c.args.seat.now.view ≡ v = sym (ap (λ (z : SeatValue CallerView). z.view) c.seat.view_is) in
    let theirs : c.args.self.now.parameters ≡ v.sight.parameters = sym c.requires.seat.parameters ∙ ap (λ (u : CallerView). u.sight.parameters) seen in
    let is : c.args.draft ≡ v.draft = c.requires.draft ∙ ap (λ (u : CallerView). u.draft) seen in
    let lp : c.args.place < width_of v.sight.parameters = subst (λ (q : Parameters). c.args.place < width_of q) theirs c.requires.place in
    let there : c.place-at.result ≡ place_of v.sight.parameters.k v.sight.parameters.s v.draft c.args.place =
    c.place-at.ensures.value ∙ (ap (λ (q : Parameters). place_of q.k q.s c.args.draft c.args.place) theirs ∙ ap (λ (d : ℕ). place_of v.sight.parameters.k v.sight.parameters.s d c.args.place) is) in
    c.store.ensures.2.1 c.args.place lp there ∙ ap (λ (u : CallerView). after_write u c.args.place c.args.word) (sym seen)

pub returns-clause-seat : goal.returns-clause-seat
returns-clause-seat c =
    let v : CallerView = as_caller c.seat.inside.seat.me.0 in
    let one = caller_at _ _ _ _ c.self.inside.table.shared.key v c.self.view_is c.seat.view_is c.requires.seat in
    at_caller _ _ _ c.self.inside.table.shared.key (as_caller c.store.new.seat.me.0) c.self.view_is (c.store.ensures.0 ∙ one.0)
    (ap (λ (u : CallerView). u.sight.parameters) (returns-clause-written c) ∙ (ap (λ (z : SeatValue CallerView). z.view.sight.parameters) (sym c.seat.view_is) ∙ one.1))

pub returns-clause-sound : goal.returns-clause-sound
returns-clause-sound c = c.store.ensures.2.2
