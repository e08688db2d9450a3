use Rattle.std.proofs.Common.{rules, ◌≡◌, ◌+◌, ◌≤◌, ℕ, List, ◌++◌, length, take, sym, subst, arith, drop, length-take, length-append}
use Rattle.std.proofs.lemmas.List.{take-append-le}
use Rattle.std.specs.Io.KnownBytes.{Consumes}
use Rattle.avalanche_cli.specs.Reading.{reason_of}
use Rattle.avalanche_cli.specs.declared.reading.NoStream.TheVariants.{ReadFault}
use Rattle.avalanche_cli.proofs.DeliveryLemmas.{rose_from}
use Rattle.avalanche_cli.proofs.ReadingLemmas.{begun_with, ended, ended_well, exits, failed, if_err, nothing_read, read_on, stopped, taken_after, taken_before}
use Rattle.avalanche_cli.proofs.reading.read_frames.Given.{Over}
use Rattle.avalanche_cli.proofs.reading.read_frames.Goals as goal
use Rattle.avalanche_cli.proofs.reading.read_frames.Goals.{After-take_in}

-- a read gives at most one byte more than there is room for
one_more : (g : Over) (c : After-take_in g) → c.in_ok-count.count ≤ c.loop-frames.room + 1
one_more g c = let read = c.in_ok-count.ensures in omega (arith, length-take {A = ℕ})

within : (g : Over) (c : After-take_in g) → c.in_ok-count.count ≤ length c.read.new.buf
within g c = let read = c.in_ok-count.ensures in omega (arith, length-take {A = ℕ})

-- the piece is what was read
piece_is : (g : Over) (c : After-take_in g) → take c.in_ok-count.count (c.read.new.buf ++ drop c.min-want.result c.loop-frames.buffer) ≡ take c.in_ok-count.count c.read.new.buf
piece_is g c = take-append-le c.in_ok-count.count c.read.new.buf (drop c.min-want.result c.loop-frames.buffer) (within g c)

pub loop-frames-init : goal.loop-frames-init
loop-frames-init g c = record {
  read = begun_with _ c.new-decoder.result c.new-frames.result.items c.new-frames.ensures c.new-decoder.ensures.after;
  taken = omega (arith, c.new-decoder.ensures.taken);
  faults = omega arith;
}

pub overflow_add-room : goal.overflow_add-room
overflow_add-room g c = let room_is = c.loop-frames.invariant.read.room_is in omega arith

pub returns-in_err-count-clause-unread : goal.returns-in_err-count-clause-unread
returns-in_err-count-clause-unread g c =
    if_err _ (exits c.from_residual.result ReadFault c.from_residual.ensures.1)
    (rose_from _ _ _ c.loop-frames.invariant.faults c.in_err-count.ensures.cause, failed _ _ _ c.loop-frames.decoder c.loop-frames.frames.items c.loop-frames.room c.loop-frames.invariant.read c.in_err-count.ensures.bytes)

pub returns-in_err-count-clause-taken : goal.returns-in_err-count-clause-taken
returns-in_err-count-clause-taken g c =
    taken_before _ _ _ c.loop-frames.decoder c.loop-frames.frames.items c.loop-frames.room c.loop-frames.invariant.read c.in_err-count.ensures.bytes

pub returns-in_err-count-clause-faults : goal.returns-in_err-count-clause-faults
returns-in_err-count-clause-faults g c = omega (arith, c.loop-frames.invariant.faults, c.read.ensures.faults)

pub returns-in_err-finish-clause-unread : goal.returns-in_err-finish-clause-unread
returns-in_err-finish-clause-unread g c =
    if_err _ (exits c.from_residual-in_err-finish.result (reason_of c.in_err-finish.field-0.0) c.from_residual-in_err-finish.ensures.1)
    (ended _ _ _ _ _ c.loop-frames.decoder c.loop-frames.frames.items c.loop-frames.room c.in_err-finish.field-0.0 c.loop-frames.invariant.read (nothing_read _ _ _ _ c.if-count-eq0.true c.in_ok-count.ensures.bytes.0) (c.in_ok-count.ensures.bytes.1 c.if-count-eq0.true (search rules)) c.in_err-finish.ensures.fault)

pub returns-in_err-finish-clause-taken : goal.returns-in_err-finish-clause-taken
returns-in_err-finish-clause-taken g c =
    taken_after _ _ _ c.loop-frames.decoder c.loop-frames.frames.items c.loop-frames.room _ c.loop-frames.invariant.read c.in_ok-count.ensures.bytes.0 (omega (arith, length-take {A = ℕ}, c.if-count-eq0.true))

pub returns-in_err-finish-clause-faults : goal.returns-in_err-finish-clause-faults
returns-in_err-finish-clause-faults g c = omega (arith, c.loop-frames.invariant.faults, c.read.ensures.faults)

pub returns-then-count-eq0-clause-holds : goal.returns-then-count-eq0-clause-holds
returns-then-count-eq0-clause-holds g c =
    ended_well _ _ _ c.loop-frames.decoder c.loop-frames.frames.items c.loop-frames.room c.loop-frames.invariant.read (nothing_read _ _ _ _ c.if-count-eq0.true c.in_ok-count.ensures.bytes.0) (c.in_ok-count.ensures.bytes.1 c.if-count-eq0.true (search rules)) (λ fed after. c.in_ok-finish.ensures.ok fed _ after)

pub returns-then-count-eq0-clause-taken : goal.returns-then-count-eq0-clause-taken
returns-then-count-eq0-clause-taken g c =
    taken_after _ _ _ c.loop-frames.decoder c.loop-frames.frames.items c.loop-frames.room _ c.loop-frames.invariant.read c.in_ok-count.ensures.bytes.0 (omega (arith, length-take {A = ℕ}, c.if-count-eq0.true))

pub returns-then-count-eq0-clause-faults : goal.returns-then-count-eq0-clause-faults
returns-then-count-eq0-clause-faults g c = omega (arith, c.loop-frames.invariant.faults, c.read.ensures.faults)

pub take_in-requires : goal.take_in-requires
take_in-requires g c = c.loop-frames.invariant.taken

pub returns-in_err-room-clause-unread : goal.returns-in_err-room-clause-unread
returns-in_err-room-clause-unread g c =
    if_err _ (exits c.from_residual-in_err-room.result c.in_err-room.field-0.0 c.from_residual-in_err-room.ensures.1)
    (stopped c.extensions.ensures.fault c.failures.ensures _ _ _ _ _ c.loop-frames.decoder c.take_in.new.decoder c.loop-frames.frames.items c.take_in.new.frames.items c.loop-frames.room _ c.in_err-room.field-0.0 c.loop-frames.invariant.read (subst (λ (l : List ℕ). Consumes (g.I.Source.remaining c.loop-frames.input) (g.I.Source.remaining c.read.new.self) l) (sym (piece_is g (goal.at.returns-in_err-room-clause-unread g c).After-take_in)) c.in_ok-count.ensures.bytes.0) c.in_err-room.ensures.taken_in)

pub returns-in_err-room-clause-taken : goal.returns-in_err-room-clause-taken
returns-in_err-room-clause-taken g c =
    taken_after _ _ _ c.loop-frames.decoder c.loop-frames.frames.items c.loop-frames.room _ c.loop-frames.invariant.read c.in_ok-count.ensures.bytes.0 (let most = one_more g (goal.at.returns-in_err-room-clause-taken g c).After-take_in in omega (arith, length-take {A = ℕ}))

pub returns-in_err-room-clause-faults : goal.returns-in_err-room-clause-faults
returns-in_err-room-clause-faults g c = omega (arith, c.loop-frames.invariant.faults, c.read.ensures.faults)

pub loop-frames-smaller : goal.loop-frames-smaller
loop-frames-smaller g c =
    let step = c.in_ok-room.ensures.taken_in in
    let same = piece_is g (goal.at.loop-frames-smaller g c).After-take_in in
    let low = within g (goal.at.loop-frames-smaller g c).After-take_in in
    let left : c.in_ok-room.room + length (take c.in_ok-count.count (c.read.new.buf ++ drop c.min-want.result c.loop-frames.buffer)) ≡ c.loop-frames.room = step.0 in
    let counted : length (take c.in_ok-count.count (c.read.new.buf ++ drop c.min-want.result c.loop-frames.buffer)) ≡ c.in_ok-count.count = omega (arith, length-take {A = ℕ}, length-append {A = ℕ}) in
    omega arith

pub loop-frames-preserved : goal.loop-frames-preserved
loop-frames-preserved g c = record {
  read = read_on _ _ _ c.loop-frames.decoder c.take_in.new.decoder c.loop-frames.frames.items c.take_in.new.frames.items c.loop-frames.room c.in_ok-room.room _ c.loop-frames.invariant.read (subst (λ (l : List ℕ). Consumes (g.I.Source.remaining c.loop-frames.input) (g.I.Source.remaining c.read.new.self) l) (sym (piece_is g (goal.at.loop-frames-preserved g c).After-take_in)) c.in_ok-count.ensures.bytes.0) c.in_ok-room.ensures.taken_in;
  taken = c.in_ok-room.ensures.taken;
  faults = omega (arith, c.loop-frames.invariant.faults, c.read.ensures.faults);
}
