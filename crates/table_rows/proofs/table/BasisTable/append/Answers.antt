use Rattle.std.proofs.Common.{◌≡◌, ℕ, ◌<◌, length, sym, ap, ◌∙◌, subst}
use Rattle.table_rows.specs.declared.view.CallerView.{CallerView}
use Rattle.table_rows.specs.declared.view.Parameters.{Parameters}
use Rattle.table_rows.specs.Good.{IsNextRegion}
use Rattle.table_rows.specs.Layout.{caller_in}
use Rattle.table_rows.specs.Seats.{SeatValue, TableValue}
use Rattle.table_rows.specs.Steps.{draft_words}
use Rattle.table_rows.specs.Views.{IsReadWhole, IsWhole, as_caller, words_read}
use Rattle.table_rows.proofs.Calls.{caller_at, directory_inside, exchange_allowed}
use Rattle.table_rows.proofs.table.BasisTable.append.Goals as goal

pub compare_exchange-found-requires : goal.compare_exchange-found-requires
compare_exchange-found-requires c =
    let key : Parameters = c.self.inside.table.shared.key in
    let v : CallerView = as_caller c.seat.inside.seat.me.0 in
    let one = caller_at _ _ _ _ key v c.self.view_is c.seat.view_is c.requires.seat in
    let seen : c.args.seat.now.view ≡ v = sym (ap (λ (z : SeatValue CallerView). z.view) c.seat.view_is) in
    let ours : c.args.self.now.parameters ≡ key = sym (ap (λ (t : TableValue). t.parameters) c.self.view_is) in
    let next : c.from.result ≡ length v.sight.front.known = c.from.ensures ∙ (c.requires.next.0 ∙ ap (λ (u : CallerView). length u.sight.front.known) seen) in
    let small : c.from.result < key.k = subst (λ (n : ℕ). n < key.k) (sym c.from.ensures) (subst (λ (q : Parameters). c.args.n < q.k) ours c.requires.next.1) in
    let good : IsNextRegion key (words_read v.sight.front) (draft_words v) =
    subst (λ (u : CallerView). IsNextRegion key (words_read u.sight.front) (draft_words u)) seen
    (subst (λ (q : Parameters). IsNextRegion q (words_read c.args.seat.now.view.sight.front) (draft_words c.args.seat.now.view)) ours c.requires.good) in (
      one.0,
      directory_inside key c.self.inside.k c.self.inside.s _ c.from.result c.self.invariant.same_k c.self.invariant.words small,
      exchange_allowed key _ _ c.from.result c.args.draft c.seat.inside.seat.me c.seat.invariant.0 one.1 next small
          (c.requires.draft.0 ∙ ap (λ (u : CallerView). u.draft) seen)
          (subst (λ (u : CallerView). IsWhole u.written) seen c.requires.draft.1)
          (subst (λ (u : CallerView). caller_in (draft_words u) ≡ u.number) seen c.requires.named.0)
          (subst (λ (u : CallerView). IsReadWhole u.sight.front) seen c.requires.read)
          good,
    )
