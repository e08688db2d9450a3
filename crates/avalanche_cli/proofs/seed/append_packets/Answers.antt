use Rattle.std.proofs.Common.{◌≡◌, ℕ, ◌++◌, List, ap, ◌∙◌, arith}
use Rattle.std.specs.List.{flat_map, range_with_len}
use Rattle.avalanche_args.specs.declared.command.SeedWords.{SeedWords}
use Rattle.generation.specs.Shape.{Dimensions, generations_of}
use Rattle.packet_wire.specs.Stream.{packet_frame}
use Rattle.avalanche_cli.specs.Seed.{packets_of_seed, seed_packets_of, shape_of_seed}
use Rattle.avalanche_cli.proofs.PieceLemmas.{frames_more}
use Rattle.avalanche_cli.proofs.seed.append_packets.Goals as goal

-- the packets of all generations
all_generations : (words : SeedWords) (file : List ℕ) (d : Dimensions) (g : ℕ) (before bytes : List ℕ) → d ≡ shape_of_seed words file → bytes ≡ before ++ flat_map packet_frame (flat_map (seed_packets_of words file) (range_with_len 0 g)) → g ≡ generations_of d → bytes ≡ before ++ flat_map packet_frame (packets_of_seed words file)
all_generations words file d g before bytes same so_far end =
    so_far ∙ ap (λ (n : ℕ). before ++ flat_map packet_frame (flat_map (seed_packets_of words file) (range_with_len 0 n))) (end ∙ ap generations_of same)

pub loop-generation-preserved : goal.loop-generation-preserved
loop-generation-preserved c =
    frames_more packet_frame (seed_packets_of c.args.words.now c.args.file.now) c.loop-generation.generation c.args.stream.now.items c.loop-generation.stream.items _
    c.loop-generation.invariant c.in_ok-append_generation.ensures

pub returns : goal.returns
returns c =
    all_generations c.args.words.now c.args.file.now c.args.shape.now c.loop-generation.generation c.args.stream.now.items c.loop-generation.stream.items
    c.requires.shape c.loop-generation.invariant
    (omega (arith, c.generations-generation-end.ensures.value, c.loop-generation.auto.generation-end))
