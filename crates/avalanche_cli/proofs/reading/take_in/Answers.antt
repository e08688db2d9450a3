use Rattle.std.proofs.Common.{sym, ap, subst, ℕ, take, arith}
use Rattle.std.specs.Prelude.{Result}
use Rattle.avalanche_cli.specs.Reading.{TakesIn, reason_of}
use Rattle.avalanche_cli.specs.declared.reading.NoStream.{NoStream}
use Rattle.avalanche_cli.proofs.ReadingLemmas.{exits, taken_badly, taken_in, taken_past}
use Rattle.avalanche_cli.proofs.reading.take_in.Goals as goal

pub returns-in-Some-clause-taken_in : goal.returns-in-Some-clause-taken_in
returns-in-Some-clause-taken_in c =
    let given = c.in-Some.ensures in
    taken_in _ _ _ _ _ _ _ _ (ap (λ (n : ℕ). take n c.args.piece.now) c.min-within.ensures) (omega (arith, given)) c.in_ok-feed.ensures.after c.in_ok-feed.ensures.appended c.in_ok-feed.ensures.ok_only

pub returns-in-None-clause-taken_in : goal.returns-in-None-clause-taken_in
returns-in-None-clause-taken_in c =
    let given = c.in-None.ensures in
    taken_past _ c.feed.new.self _ c.feed.new.frames.items _ _ _ (ap (λ (n : ℕ). take n c.args.piece.now) c.min-within.ensures) (omega (arith, given)) c.in_ok-feed.ensures.ok_only

pub returns-in_err-feed-clause-taken_in : goal.returns-in_err-feed-clause-taken_in
returns-in_err-feed-clause-taken_in c =
    subst (λ (answer : Result ℕ NoStream). TakesIn c.args.decoder.now c.args.frames.now.items c.args.piece.now c.args.room c.feed.new.self c.feed.new.frames.items answer)
    (sym (exits c.from_residual.result (reason_of c.in_err-feed.field-0.0) c.from_residual.ensures.1))
    (taken_badly (Unit {0}) _ c.feed.new.self _ c.feed.new.frames.items _ _ _ c.in_err-feed.field-0.0 (ap (λ (n : ℕ). take n c.args.piece.now) c.min-within.ensures) c.in_err-feed.ensures.appended c.in_err-feed.ensures.fault)
