use Rattle.std.proofs.Common.{◌≡◌, ◌<◌, ℕ, List, length, sym, ap, ◌∙◌, arith}
use Rattle.table_rows.specs.Layout.{packed_of, packed_words_of, words_for}
use Rattle.table_rows.proofs.SymbolWords.{four_from, same_more}
use Rattle.table_rows.proofs.symbols.pack_all.Goals as goal

pub loop-at-preserved : goal.loop-at-preserved
loop-at-preserved c =
    let symbols : List ℕ = c.args.symbols.now in
    let at : ℕ = c.loop-at.at in
    let needed : length c.args.words.now ≡ words_for (length symbols) = c.requires in
    let kept : length c.loop-at.words ≡ length c.args.words.now = c.loop-at.auto.words in
    let below : at < length c.args.words.now = c.loop-at-test.true in
    let count : length (packed_words_of symbols) ≡ words_for (length symbols) = c.packing.ensures.count symbols in
    let within : at < words_for (length symbols) = omega arith in
    same_more c.loop-at.words (packed_words_of symbols) at c.pack.result (omega arith) (omega arith) c.loop-at.invariant
    (c.pack.ensures ∙ (ap packed_of (four_from symbols at c.min-end.result c.min-end.ensures) ∙ sym (c.packing.ensures.word symbols at within)))
