use Rattle.std.proofs.Common.{◌≡◌, ℕ, ◌*◌, List, length, ap, sym, subst, ◌∙◌, refl}
use Rattle.std.specs.Prelude.{◌≤◌}
use Rattle.generation.specs.Blocks.{file_of}
use Rattle.generation.specs.Shape.{generations_of}
use Rattle.avalanche_cli.specs.Seed.{IsSeedable, seed_count_of, shape_of_seed, stream_of_seed, stream_room_of, ticket_of_seed}
use Rattle.avalanche_args.specs.declared.command.SeedWords.{SeedWords}
use Rattle.avalanche_cli.proofs.SeedLemmas.{is_shape}
use Rattle.avalanche_cli.proofs.SeededLemmas.{is_file, seeded_lie, seeded_packets, seeded_packets_fit, seeded_pass, seeded_rank, seeded_true, seeded_truth}
use Rattle.avalanche_cli.proofs.SeededStream.{few_without_draws, is_stream, length-stream}
use Rattle.avalanche_cli.proofs.UnitLemmas.{full_rank_of_units, unit_combines}
use Rattle.avalanche_cli.proofs.laws.seeding.seeded_streams.Goals as goal

pub returns-clause-stream : goal.returns-clause-stream
returns-clause-stream c words file is =
    let d = shape_of_seed words file in
    is_stream words file is (c.weights_and_sums.ensures.sums d file (ticket_of_seed words file).key words.checks)
    (seeded_packets c.blocks_by_generation.ensures.count c.blocks_by_generation.ensures.vectors words file is c.spans.ensures.fits)

room : (c : goal.After-true_packets_pass) → (words : SeedWords) (file : List ℕ) → IsSeedable words file → length (stream_of_seed words file) ≡ stream_room_of (shape_of_seed words file) words.checks (generations_of (shape_of_seed words file) * seed_count_of words)
room c words file is =
    let sums = c.weights_and_sums.ensures.sums (shape_of_seed words file) file (ticket_of_seed words file).key words.checks in
    length-stream c.bytes_spell_symbols.ensures.length words file is sums.count
    (seeded_packets_fit c.blocks_by_generation.ensures.count c.blocks_by_generation.ensures.vectors words file is c.spans.ensures.fits)

pub returns-clause-room : goal.returns-clause-room
returns-clause-room c = room c

pub returns-clause-within : goal.returns-clause-within
returns-clause-within c words file is none =
    let d = shape_of_seed words file in
    let few = few_without_draws words d (is_shape words file is.in_range is.within) is.in_range.checks refl none in
    subst (λ (n : ℕ). n ≤ 67108864) (sym (room c words file is)) few

pub returns-clause-rank : goal.returns-clause-rank
returns-clause-rank c words file is whole generation below =
    seeded_rank c.blocks_by_generation.ensures.count c.blocks_by_generation.ensures.vectors words file is c.spans.ensures.fits
    (unit_combines c.field.ensures c.combinations.ensures) c.truth.ensures.drawn
    c.weights_and_sums.ensures.weights c.weights_and_sums.ensures.sums c.true_packets_pass.ensures.pass
    c.ranks.ensures (full_rank_of_units c.field.ensures c.ranks.ensures) generation whole below

pub returns-clause-truth : goal.returns-clause-truth
returns-clause-truth c words file is generation below =
    seeded_truth c.blocks_by_generation.ensures.count c.blocks_by_generation.ensures.vectors words file is c.spans.ensures.fits
    (unit_combines c.field.ensures c.combinations.ensures) c.truth.ensures.drawn
    c.weights_and_sums.ensures.weights c.weights_and_sums.ensures.sums c.true_packets_pass.ensures.pass generation below

pub returns-clause-packets : goal.returns-clause-packets
returns-clause-packets c words file is =
    seeded_true c.blocks_by_generation.ensures.count c.blocks_by_generation.ensures.vectors words file is c.spans.ensures.fits
    (unit_combines c.field.ensures c.combinations.ensures) c.truth.ensures.drawn

pub returns-clause-pass : goal.returns-clause-pass
returns-clause-pass c words file is =
    seeded_pass c.blocks_by_generation.ensures.count c.blocks_by_generation.ensures.vectors words file is c.spans.ensures.fits
    (unit_combines c.field.ensures c.combinations.ensures) c.truth.ensures.drawn
    c.weights_and_sums.ensures.weights c.weights_and_sums.ensures.sums c.true_packets_pass.ensures.pass

pub returns-clause-file : goal.returns-clause-file
returns-clause-file c words file is =
    let d = shape_of_seed words file in
    let shape = is_shape words file is.in_range is.within in
    let whole = is_file words file is in
    ap (file_of d) (sym (c.blocks_by_generation.ensures.in_order d file)) ∙ c.cut_and_join.ensures.file d file shape whole

pub returns-clause-lie : goal.returns-clause-lie
returns-clause-lie c words file is =
    seeded_lie c.blocks_by_generation.ensures.count c.blocks_by_generation.ensures.vectors words file is c.spans.ensures.span
