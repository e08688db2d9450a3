use Rattle.std.proofs.Common.{◌≡◌, ◌-◌, ◌∙◌, ap, arith, length, refl, rules, take, drop}
use Rattle.std.proofs.lemmas.List.{length-drop, take_all}
use Rattle.linear_spec.specs.Symbols.{symbols_of}
use Rattle.packet_wire.proofs.make.make_ticket.Goals as goal

pub returns : goal.returns
returns c =
    let held = c.args.held.now in
    let key : c.array32-key.result ≡ take 32 (drop 10 held) = search rules in
    let all = take_all (length held - 43) (drop 43 held) (omega (arith, length-drop 43 held)) in
    let sums : c.in_ok-sums.sums ≡ symbols_of (drop 43 held) = c.in_ok-sums.ensures.symbols ∙ ap symbols_of all in
    rw (key, sums) refl
