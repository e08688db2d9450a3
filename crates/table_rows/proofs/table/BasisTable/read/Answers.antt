use Rattle.std.proofs.Common.{◌≡◌, ℕ, ◌+◌, ◌<◌, ◌≤◌, length, get_or, sym, ap, ◌∙◌, subst}
use Rattle.std.specs.Prelude.{Some}
use Rattle.table_rows.specs.declared.view.CallerView.{CallerView}
use Rattle.table_rows.specs.declared.view.Parameters.{Parameters}
use Rattle.table_rows.specs.Layout.{place_of}
use Rattle.table_rows.specs.Seats.{SeatValue, TableValue}
use Rattle.table_rows.specs.Steps.{after_read}
use Rattle.table_rows.specs.Views.{as_caller, width_of, word_read}
use Rattle.table_rows.proofs.Calls.{caller_at, at_caller, known_region, read_allowed}
use Rattle.table_rows.proofs.table.BasisTable.read.Goals as goal

pub place-at-requires-clause-region : goal.place-at-requires-clause-region
place-at-requires-clause-region c =
    let v : CallerView = as_caller c.seat.inside.seat.me.0 in
    let seen : c.args.seat.now.view ≡ v = sym (ap (λ (z : SeatValue CallerView). z.view) c.seat.view_is) in
    let same : v.sight.parameters ≡ c.args.self.now.parameters = sym (ap (λ (u : CallerView). u.sight.parameters) seen) ∙ c.requires.seat.parameters in
    let ln : c.args.n < length v.sight.front.known = subst (λ (u : CallerView). c.args.n < length u.sight.front.known) seen c.requires.known.0 in
    let is : c.args.region ≡ get_or v.sight.front.known c.args.n 0 = c.requires.known.1 ∙ ap (λ (u : CallerView). get_or u.sight.front.known c.args.n 0) seen in
    subst (λ (q : Parameters). (1 ≤ c.args.region) × (c.args.region ≤ q.passes + q.k)) same (known_region v c.args.n c.args.region c.seat.invariant.1 ln is)

pub load-requires : goal.load-requires
load-requires c =
    let key : Parameters = c.self.inside.table.shared.key in
    let v : CallerView = as_caller c.seat.inside.seat.me.0 in
    let one = caller_at _ _ _ _ key v c.self.view_is c.seat.view_is c.requires.seat in
    let seen : c.args.seat.now.view ≡ v = sym (ap (λ (z : SeatValue CallerView). z.view) c.seat.view_is) in
    let ours : c.args.self.now.parameters ≡ key = sym (ap (λ (t : TableValue). t.parameters) c.self.view_is) in
    let ln : c.args.n < length v.sight.front.known = subst (λ (u : CallerView). c.args.n < length u.sight.front.known) seen c.requires.known.0 in
    let is : c.args.region ≡ get_or v.sight.front.known c.args.n 0 = c.requires.known.1 ∙ ap (λ (u : CallerView). get_or u.sight.front.known c.args.n 0) seen in
    let lp : c.args.place < width_of key = subst (λ (q : Parameters). c.args.place < width_of q) ours c.requires.place in
    let there : c.place-at.result ≡ place_of key.k key.s (get_or v.sight.front.known c.args.n 0) c.args.place =
    c.place-at.ensures.value ∙ (ap (λ (q : Parameters). place_of q.k q.s c.args.region c.args.place) ours ∙ ap (λ (d : ℕ). place_of key.k key.s d c.args.place) is) in
    let within : c.place-at.result < c.self.inside.table.shared.table_id.words = subst (λ (t : TableValue). c.place-at.result < t.table.words) (sym c.self.view_is) c.place-at.ensures.within in
    (one.0, within, read_allowed key _ _ c.place-at.result c.args.n c.args.place c.seat.inside.seat.me c.seat.invariant.0 one.1 ln lp there)

pub invariant_of-seat : goal.invariant_of-seat
invariant_of-seat c = (c.load.ensures.2.0, c.load.ensures.2.2.shaped)

pub returns-clause-read : goal.returns-clause-read
returns-clause-read c =
    let key : Parameters = c.self.inside.table.shared.key in
    let v : CallerView = as_caller c.seat.inside.seat.me.0 in
    let one = caller_at _ _ _ _ key v c.self.view_is c.seat.view_is c.requires.seat in
    let seen : c.args.seat.now.view ≡ v = sym (ap (λ (z : SeatValue CallerView). z.view) c.seat.view_is) in
    let theirs : c.args.self.now.parameters ≡ v.sight.parameters = sym c.requires.seat.parameters ∙ ap (λ (u : CallerView). u.sight.parameters) seen in
    let ln : c.args.n < length v.sight.front.known = subst (λ (u : CallerView). c.args.n < length u.sight.front.known) seen c.requires.known.0 in
    let is : c.args.region ≡ get_or v.sight.front.known c.args.n 0 = c.requires.known.1 ∙ ap (λ (u : CallerView). get_or u.sight.front.known c.args.n 0) seen in
    let lp : c.args.place < width_of v.sight.parameters = subst (λ (q : Parameters). c.args.place < width_of q) theirs c.requires.place in
    let there : c.place-at.result ≡ place_of v.sight.parameters.k v.sight.parameters.s (get_or v.sight.front.known c.args.n 0) c.args.place =
    c.place-at.ensures.value ∙ (ap (λ (q : Parameters). place_of q.k q.s c.args.region c.args.place) theirs ∙ ap (λ (d : ℕ). place_of v.sight.parameters.k v.sight.parameters.s d c.args.place) is) in
    (c.load.ensures.2.1 c.args.n c.args.place ln lp there).0 ∙ ap (λ (u : CallerView). after_read u c.args.n c.args.place c.load.result) (sym seen)

pub returns-clause-again : goal.returns-clause-again
returns-clause-again c =
    let key : Parameters = c.self.inside.table.shared.key in
    let v : CallerView = as_caller c.seat.inside.seat.me.0 in
    let one = caller_at _ _ _ _ key v c.self.view_is c.seat.view_is c.requires.seat in
    let seen : c.args.seat.now.view ≡ v = sym (ap (λ (z : SeatValue CallerView). z.view) c.seat.view_is) in
    let theirs : c.args.self.now.parameters ≡ v.sight.parameters = sym c.requires.seat.parameters ∙ ap (λ (u : CallerView). u.sight.parameters) seen in
    let ln : c.args.n < length v.sight.front.known = subst (λ (u : CallerView). c.args.n < length u.sight.front.known) seen c.requires.known.0 in
    let is : c.args.region ≡ get_or v.sight.front.known c.args.n 0 = c.requires.known.1 ∙ ap (λ (u : CallerView). get_or u.sight.front.known c.args.n 0) seen in
    let lp : c.args.place < width_of v.sight.parameters = subst (λ (q : Parameters). c.args.place < width_of q) theirs c.requires.place in
    let there : c.place-at.result ≡ place_of v.sight.parameters.k v.sight.parameters.s (get_or v.sight.front.known c.args.n 0) c.args.place =
    c.place-at.ensures.value ∙ (ap (λ (q : Parameters). place_of q.k q.s c.args.region c.args.place) theirs ∙ ap (λ (d : ℕ). place_of v.sight.parameters.k v.sight.parameters.s d c.args.place) is) in
    λ word e. (c.load.ensures.2.1 c.args.n c.args.place ln lp there).1 word (subst (λ (u : CallerView). word_read u.sight.front.read c.args.n c.args.place ≡ Some word) seen e)

pub returns-clause-seat : goal.returns-clause-seat
returns-clause-seat c =
    let v : CallerView = as_caller c.seat.inside.seat.me.0 in
    let one = caller_at _ _ _ _ c.self.inside.table.shared.key v c.self.view_is c.seat.view_is c.requires.seat in
    at_caller _ _ _ c.self.inside.table.shared.key (as_caller c.load.new.seat.me.0) c.self.view_is (c.load.ensures.0 ∙ one.0)
    (ap (λ (u : CallerView). u.sight.parameters) (returns-clause-read c) ∙ (ap (λ (z : SeatValue CallerView). z.view.sight.parameters) (sym c.seat.view_is) ∙ one.1))

pub returns-clause-sound : goal.returns-clause-sound
returns-clause-sound c = c.load.ensures.2.2
