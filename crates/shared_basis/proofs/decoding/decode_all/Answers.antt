use Rattle.std.proofs.Common.{◌≡◌, ◌+◌, ◌-◌, ◌*◌, ◌<◌, ℕ, length, map, take, sym, ap, ◌∙◌, arith}
use Rattle.table_rows.specs.Layout.{length_of, record_in, region_length, region_of, row_in}
use Rattle.shared_basis.proofs.DecodeLemmas.{blanks_popped, directory_most, goes_on, one_more}
use Rattle.shared_basis.proofs.GatherLemmas.{popped}
use Rattle.shared_basis.proofs.decoding.decode_all.Goals as goal

pub region_at-region-requires-clause-to : goal.region_at-region-requires-clause-to
region_at-region-requires-clause-to c =
    let below : c.loop-n.n < c.args.params.now.k = omega (arith, c.loop-n-test.true, c.from-n-end.ensures) in
    (c.requires.words.regions c.loop-n.n (goes_on _ _ _ c.requires.words.directory below c.loop-n.invariant.within c.if-words-n-eq0.false)).1

pub record_from-requires : goal.record_from-requires
record_from-requires c =
    let below : c.loop-n.n < c.args.params.now.k = omega (arith, c.loop-n-test.true, c.from-n-end.ensures) in
    let last = blanks_popped _ _ (2 * (c.args.params.now.k - c.loop-n.n) - 1) _ _ _ c.loop-n.invariant.blanks (omega arith) (popped _ _ _ _ c.pop.ensures.items c.unwrap.ensures) in
    c.region_at-region.ensures.count ∙ (λ i. region_length (sym last.0.coeffs i) (sym last.0.payload i))

pub row_from-requires : goal.row_from-requires
row_from-requires c =
    let below : c.loop-n.n < c.args.params.now.k = omega (arith, c.loop-n-test.true, c.from-n-end.ensures) in
    let first = blanks_popped _ _ (2 * (c.args.params.now.k - c.loop-n.n) - 1) _ _ _ c.loop-n.invariant.blanks (omega arith) (popped _ _ _ _ c.pop.ensures.items c.unwrap.ensures) in
    let second = blanks_popped _ _ (2 * (c.args.params.now.k - (c.loop-n.n + 1))) _ _ _ first.1 (omega arith)
    (popped _ _ _ _ c.pop-in-loop-n.ensures.items c.unwrap-in-loop-n.ensures) in
    c.region_at-region.ensures.count ∙ (λ i. region_length (sym second.0.coeffs i) (sym second.0.payload i))

pub loop-n-preserved : goal.loop-n-preserved
loop-n-preserved c =
    let below : c.loop-n.n < c.args.params.now.k = omega (arith, c.loop-n-test.true, c.from-n-end.ensures) in
    let first = blanks_popped _ _ (2 * (c.args.params.now.k - c.loop-n.n) - 1) _ _ _ c.loop-n.invariant.blanks (omega arith) (popped _ _ _ _ c.pop.ensures.items c.unwrap.ensures) in
    let second = blanks_popped _ _ (2 * (c.args.params.now.k - (c.loop-n.n + 1))) _ _ _ first.1 (omega arith)
    (popped _ _ _ _ c.pop-in-loop-n.ensures.items c.unwrap-in-loop-n.ensures) in
    let within : c.loop-n.n < length c.args.words.now = omega (arith, c.requires.words.directory) in
    let on : c.loop-n.n < length_of c.args.params.now.k c.args.words.now =
    goes_on _ _ _ c.requires.words.directory below c.loop-n.invariant.within c.if-words-n-eq0.false in
    record {
      within = omega arith;
      records = one_more (record_in c.args.params.now.generation c.args.params.now.k c.args.params.now.s) (region_of c.args.params.now.k c.args.params.now.s c.args.words.now)
          c.args.words.now c.loop-n.n _ _ _ within c.loop-n.invariant.records c.put.ensures.items
          (c.record_from.ensures ∙ (λ i. record_in (first.0.generation_is i) (first.0.coeffs i) (first.0.payload i) (c.region_at-region.ensures.value i)));
      rows = one_more (row_in c.args.params.now.generation c.args.params.now.k c.args.params.now.s) (region_of c.args.params.now.k c.args.params.now.s c.args.words.now)
          c.args.words.now c.loop-n.n _ _ _ within c.loop-n.invariant.rows c.put-in-loop-n.ensures.items
          (c.row_from.ensures ∙ (λ i. row_in (second.0.generation_is i) (second.0.coeffs i) (second.0.payload i) (c.region_at-region.ensures.value i)));
      blanks = second.1;
      records_room = omega (arith, c.put.ensures.spare, c.loop-n.invariant.records_room);
      rows_room = omega (arith, c.put-in-loop-n.ensures.spare, c.loop-n.invariant.rows_room);
    }

pub returns-clause-records : goal.returns-clause-records
returns-clause-records c =
    let most = directory_most c.args.params.now.k 0 c.args.words.now c.requires.words.directory in
    let all : c.loop-n.n ≡ length_of c.args.params.now.k c.args.words.now = omega (arith, c.loop-n-test.false, c.from-n-end.ensures, c.loop-n.invariant.within, most) in
    c.loop-n.invariant.records ∙ ap (λ (m : ℕ). map (record_in c.args.params.now.generation c.args.params.now.k c.args.params.now.s)
    (map (region_of c.args.params.now.k c.args.params.now.s c.args.words.now) (take m c.args.words.now))) all

pub returns-clause-rows : goal.returns-clause-rows
returns-clause-rows c =
    let most = directory_most c.args.params.now.k 0 c.args.words.now c.requires.words.directory in
    let all : c.loop-n.n ≡ length_of c.args.params.now.k c.args.words.now = omega (arith, c.loop-n-test.false, c.from-n-end.ensures, c.loop-n.invariant.within, most) in
    c.loop-n.invariant.rows ∙ ap (λ (m : ℕ). map (row_in c.args.params.now.generation c.args.params.now.k c.args.params.now.s)
    (map (region_of c.args.params.now.k c.args.params.now.s c.args.words.now) (take m c.args.words.now))) all
