use Rattle.std.proofs.Common.{◌≡◌, ℕ, ◌<◌, ◌≤◌, length, subst, arith}
use Rattle.table_rows.specs.Layout.{words_for}
use Rattle.table_rows.proofs.SymbolWords.{unpacked_next}
use Rattle.table_rows.proofs.symbols.unpack_all.Goals as goal

pub loop-at-preserved : goal.loop-at-preserved
loop-at-preserved c =
    let at : ℕ = c.loop-at.at in
    let needed : words_for (length c.args.out.now) ≤ length c.args.words.now = c.requires in
    let kept : length c.loop-at.out ≡ length c.args.out.now = c.loop-at.auto.out in
    let below : at < words_for (length c.args.out.now) = subst (λ (count : ℕ). at < count) c.words_for_symbols-count.ensures c.loop-at-test.true in
    unpacked_next c.packing.ensures.more c.args.words.now c.loop-at.out c.unpack.new.out at c.min-end.result (omega arith) (omega arith)
    c.min-end.ensures c.loop-at.invariant c.unpack.ensures c.unpack.auto.out
