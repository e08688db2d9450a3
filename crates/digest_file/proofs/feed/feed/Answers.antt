use Rattle.std.proofs.Common.{refl, ◌*◌, ◌≤◌, ◌-◌, ◌++◌, length, take, drop, ap, ◌∙◌, subst, sym, append_assoc, arith}
use Rattle.sha2.specs.Hashers.{Holds256}
use Rattle.linear_spec.specs.Symbols.{be_bytes_of}
use Rattle.digest_file.proofs.Cuts.{nothing_fed, piece_fed}
use Rattle.digest_file.proofs.feed.feed.Goals as goal

pub loop-number-init : goal.loop-number-init
loop-number-init c = λ message holds. subst (Holds256 c.args.hasher.now) (sym (nothing_fed c.args.limit message)) holds

pub loop-number-preserved : goal.loop-number-preserved
loop-number-preserved c = λ message holds.
    let start = 32 * c.loop-number.number in
    let symbols = c.args.symbols.now in
    let within : 32 * c.loop-number.number ≤ length c.args.symbols.now = omega arith in
    let done = take c.args.limit (be_bytes_of (take start symbols)) in
    let piece = take c.saturating_sub.result (be_bytes_of (take (c.min-end.result - start) (drop start symbols))) in
    let further = piece_fed c.args.limit start c.min-end.result c.saturating_sub.result c.loop-number.number symbols refl
    within c.min-end.ensures c.saturating_sub.ensures in
    subst (Holds256 c.feed_piece.new.hasher) (append_assoc message done piece ∙ ap (λ l. message ++ l) further)
    (c.feed_piece.ensures (message ++ done) (c.loop-number.invariant message holds))
