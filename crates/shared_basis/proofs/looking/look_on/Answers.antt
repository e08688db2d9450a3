use Rattle.std.proofs.Common.{◌≡◌, ℕ, ◌+◌, ◌-◌, ◌<◌, List, [], ◌∷◌, ◌++◌, length, arith}
use Rattle.shared_basis.proofs.LookLemmas.{found_none, found_on, known_more}
use Rattle.shared_basis.proofs.looking.look_on.Goals as goal

pub loop-desk-init : goal.loop-desk-init
loop-desk-init c = record { desk = c.requires.desk; seat = c.requires.seat; found = ([], found_none c.args.desk.now.seat.view) }

pub loop-desk-preserved : goal.loop-desk-preserved
loop-desk-preserved c =
    let more : List (List ℕ) = c.loop-desk.invariant.found.0 in
    let words : List ℕ = c.look_once.new.desk.words.items in record {
      desk = c.if-not-look_once.ensures.desk;
      seat = c.if-not-look_once.ensures.seat;
      found = (
        more ++ words ∷ [],
        found_on more (words ∷ []) c.args.desk.now.seat.view c.loop-desk.desk.seat.view c.look_once.new.desk.seat.view
            c.loop-desk.invariant.found.1 c.if-not-look_once.ensures.found,
      );
    }

pub loop-desk-smaller : goal.loop-desk-smaller
loop-desk-smaller c =
    let words : List ℕ = c.look_once.new.desk.words.items in
    let one : length c.look_once.new.desk.known.items ≡ length c.loop-desk.desk.known.items + 1 =
    known_more (words ∷ []) c.loop-desk.desk c.look_once.new.desk c.loop-desk.invariant.desk c.if-not-look_once.ensures.desk c.if-not-look_once.ensures.found in
    let below : length c.loop-desk.desk.known.items < c.args.k = omega arith in
    let fewer : c.args.k - length c.look_once.new.desk.known.items < c.args.k - length c.loop-desk.desk.known.items = omega arith in
    fewer
