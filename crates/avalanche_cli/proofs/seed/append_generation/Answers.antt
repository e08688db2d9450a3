use Rattle.std.proofs.Common.{◌≡◌, ℕ, ◌++◌, Bool, true, false, List, [], if◌then◌else◌, sym, ap, ◌∙◌, subst, append-nil, append_assoc}
use Rattle.std.specs.Prelude.{Result, OnOk}
use Rattle.std.specs.List.{flat_map}
use Rattle.std.proofs.lemmas.Grind.{flat_map-append}
use Rattle.linear_spec.specs.declared.packet.Packet.{Packet}
use Rattle.linear_spec.specs.List.{ListValue}
use Rattle.generation.specs.Shape.{Dimensions}
use Rattle.packet_wire.specs.Stream.{packet_frame}
use Rattle.avalanche_cli.specs.Seed.{generation_packets_of, seed_draws_of, shape_of_seed}
use Rattle.avalanche_cli.proofs.seed.append_generation.Goals.{then-not-words+in_ok-append_all, else-not-words}
use Rattle.avalanche_cli.proofs.seed.append_generation.Goals as goal

-- the frames of the packets unless they are left out
abbrev HasFrames : Bool → List Packet → List ℕ → List ℕ → Type 0
HasFrames left_out packets before after = after ≡ before ++ flat_map packet_frame (if left_out then [] else packets)

has_all : (left_out : Bool) (packets : List Packet) (before after : List ℕ) → left_out ≡ false → after ≡ before ++ flat_map packet_frame packets → HasFrames left_out packets before after
has_all left_out packets before after whole is = subst (λ (b : Bool). HasFrames b packets before after) (sym whole) is

has_none : (left_out : Bool) (packets : List Packet) (before after : List ℕ) → left_out ≡ true → after ≡ before → HasFrames left_out packets before after
has_none left_out packets before after bare is = subst (λ (b : Bool). HasFrames b packets before after) (sym bare) (is ∙ sym (append-nil before))

-- and then those of the draws
then_draws : {E : Type 0} (result : Result (Unit {0}) E) (blocks draws : List Packet) (before middle after : List ℕ) → middle ≡ before ++ flat_map packet_frame blocks → OnOk result (after ≡ middle ++ flat_map packet_frame draws) → OnOk result (after ≡ before ++ flat_map packet_frame (blocks ++ draws))
then_draws result blocks draws before middle after first second =
    let all : middle ++ flat_map packet_frame draws ≡ before ++ flat_map packet_frame (blocks ++ draws) =
    ap (λ (l : List ℕ). l ++ flat_map packet_frame draws) first
    ∙ append_assoc before (flat_map packet_frame blocks) (flat_map packet_frame draws)
    ∙ ap (λ (l : List ℕ). before ++ l) (sym (flat_map-append packet_frame blocks draws)) in
    subst (λ (l : List ℕ). OnOk result (after ≡ l)) all second

pub append_all-requires : goal.append_all-requires
append_all-requires c = c.in_ok-blocks.ensures.frames

pub returns : goal.returns
returns c =
    let bare : Bool = c.args.words.now.bare in
    let g : ℕ = c.args.generation in
    let file : List ℕ = c.args.file.now in
    let own : List Packet = generation_packets_of (shape_of_seed c.args.words.now file) file g in
    let before : List ℕ = c.args.stream.now.items in
    let are : c.in_ok-blocks.blocks.items ≡ own = c.in_ok-blocks.ensures.packets ∙ ap (λ (d : Dimensions). generation_packets_of d file g) c.requires.shape in
    let blocks : HasFrames bare own before c.if-not-words.stream.items =
    elim c.if-not-words.branch [
      | then-not-words+in_ok-append_all w ↦ has_all bare own before c.if-not-words.stream.items w.if-not-words.true
          (ap (λ (l : ListValue ℕ). l.items) w.stream-is ∙ w.in_ok-append_all.ensures ∙ ap (λ (l : List Packet). before ++ flat_map packet_frame l) are)
      | else-not-words w ↦ has_none bare own before c.if-not-words.stream.items w.if-not-words.false (ap (λ (l : ListValue ℕ). l.items) w.stream-is)
    ] in
    then_draws c.append_draws.result (if bare then [] else own) (seed_draws_of c.args.words.now file g) before c.if-not-words.stream.items c.append_draws.new.stream.items
    blocks c.append_draws.ensures
