use Rattle.std.proofs.Common.{◌≡◌, ℕ, ◌+◌, ◌-◌, ◌*◌, ◌^◌, List, ◌∷◌, ◌++◌, length, set, ◌∙◌, arith}
use Rattle.std.proofs.lemmas.List.{append_assoc, length-set}
use Rattle.linear_spec.specs.declared.packet.Packet.{Packet}
use Rattle.table_rows.specs.Layout.{packed_words_of, region_length}
use Rattle.table_rows.proofs.RegionWords.{behind_two}
use Rattle.table_rows.proofs.regions.lay_out.Goals as goal

pub returns : goal.returns
returns c =
    let words : List ℕ = c.args.words.now in
    let packet : Packet = c.args.packet.now in
    let row : Packet = c.args.row.now in
    let first : ℕ = c.from.result * 4294967296 + c.from-2.result in
    let second : ℕ = c.args.pivot in
    let written : List ℕ = set (set words 0 first) 1 second in
    let long : length words ≡ region_length (length packet.coeffs) (length packet.payload) = c.requires.words in
    let kept : length written ≡ length words = length-set (set words 0 first) 1 second ∙ length-set words 0 first in
    let named : first ≡ c.args.caller * 2 ^ 32 + c.args.call = λ i. c.from.ensures i * 4294967296 + c.from-2.ensures i in
    let joined = c.lay_out_pair.ensures
    ∙ append_assoc (packed_words_of packet.coeffs) (packed_words_of packet.payload) (packed_words_of row.coeffs ++ packed_words_of row.payload) in
    behind_two words c.lay_out_pair.new.words first second (length written - 2) (omega arith) (omega arith)
    ∙ (λ i. named i ∷ second ∷ joined i)
