-- What a closing tells, from what the founder has taken in and from the words at the end.
use Rattle.std.proofs.Common.{◌≡◌, ℕ, zero, suc, ◌+◌, ◌*◌, ◌<◌, ◌≤◌, ◌^◌, List, [], ◌∷◌, ◌++◌, length, map, take, drop, get_or, reverse, sym, refl, ap, ◌∙◌, subst, arith, mul-le-mul_left}
use Rattle.std.specs.Prelude.{None, IsSome}
use Rattle.std.specs.List.{All}
use Rattle.std.proofs.lemmas.List.{get_or_default, length-map, length-reverse, map-append, take-append-drop, take_at}
use Rattle.std.proofs.lemmas.List.Elements.{All-drop, All-map}
use Rattle.linear_spec.specs.declared.packet.Packet.{Packet}
use Rattle.linear_spec.specs.declared.record.Record.{Record}
use Rattle.linear_spec.specs.Packet.{Fits}
use Rattle.linear_spec.specs.Rows.{StandForAll}
use Rattle.linear_spec.specs.SequentialBasis.{packets_of}
use Rattle.basis_core.specs.declared.trace.CallerTrace.{CallerTrace}
use Rattle.basis_core.specs.Legal.{IsLegalHistory}
use Rattle.basis_core.specs.Merge.{given_by, only}
use Rattle.table_rows.specs.declared.view.FounderView.{FounderView}
use Rattle.table_rows.specs.declared.view.Parameters.{Parameters}
use Rattle.table_rows.specs.Closing.{IsClosed}
use Rattle.table_rows.specs.Good.{IsGood, offers_of}
use Rattle.table_rows.specs.Layout.{basis_length, caller_in, length_of, records_of_words, region_length, regions_of, rows_of_words}
use Rattle.table_rows.specs.Seats.{SeatValue, TableValue}
use Rattle.table_rows.specs.Views.{words_read}
use Rattle.table_rows.specs.RegionLaws.{RecordLaws}
use Rattle.shared_basis.specs.declared.params.Closed.{Closed}
use Rattle.shared_basis.specs.declared.params.Params.{Params}
use Rattle.shared_basis.specs.Bases.{AreParameters, BasisValue, IsBasis, PassValue}
use Rattle.shared_basis.specs.Close.{AreAllPasses, IsCloseOf, caller_of_pass}
use Rattle.shared_basis.specs.Decoding.{HaveRegions}
use Rattle.shared_basis.specs.Gathering.{AreCallersOf, HasGathered, HasTaken, HasTakenFrom}
use Rattle.shared_basis.specs.Passes.{calls_of}
use Rattle.shared_basis.specs.Regions.{record_at}
use Rattle.shared_basis.proofs.DecodeLemmas.{directory_most}
use Rattle.shared_basis.proofs.PassLemmas.{seen_fit, seen_stand}
use Rattle.shared_basis.proofs.TogetherLemmas.{HistoryLaws, all_together, callers_below, legal_over}

-- the pass at a place of those that were taken in
taken_at : (p : Parameters) (f : FounderView) (number : ℕ) (passes : List PassValue) (at : ℕ) (other : PassValue) → HasTakenFrom p f number passes
    → at < length passes → HasTaken p f (number + at) (get_or passes at other)
taken_at p f number [] at other taken below = absurd (omega arith)
taken_at p f number (pass ∷ passes) zero other taken below =
    let none : number ≡ number + 0 = omega arith in subst (λ (m : ℕ). HasTaken p f m pass) none taken.0
taken_at p f number (pass ∷ passes) (suc at) other taken below =
    let next : (number + 1) + at ≡ number + suc at = omega arith in
    subst (λ (m : ℕ). HasTaken p f m (get_or passes at other)) next (taken_at p f (number + 1) passes at other taken.1 (omega arith))

-- there are as many callers as passes
callers_count : (callers : List CallerTrace) (passes : List PassValue) → AreCallersOf callers passes → length callers ≡ length passes
callers_count [] [] are = refl
callers_count [] (pass ∷ passes) are = absurd are
callers_count (caller ∷ callers) [] are = absurd are
callers_count (caller ∷ callers) (pass ∷ passes) are = ap suc (callers_count callers passes are.1)

-- the caller at a place is the pass there
caller_at : (callers : List CallerTrace) (passes : List PassValue) (at : ℕ) (caller : CallerTrace) (other : PassValue) → AreCallersOf callers passes
    → at < length passes → caller_of_pass (get_or callers at caller) (get_or passes at other)
caller_at [] [] at caller other are below = absurd (omega arith)
caller_at [] (pass ∷ passes) at caller other are below = absurd are
caller_at (own ∷ callers) [] at caller other are below = absurd are
caller_at (own ∷ callers) (pass ∷ passes) zero caller other are below = are.0
caller_at (own ∷ callers) (pass ∷ passes) (suc at) caller other are below = caller_at callers passes at caller other are.1 (omega arith)

-- all were taken in
module _ (basis : BasisValue) (given : List PassValue) (founder : SeatValue FounderView) (callers : List CallerTrace) (all : AreAllPasses basis given)
    (gathered : HasGathered basis given founder [] callers) where
  taken_all : HasTakenFrom basis.parameters founder.view 0 given
  taken_all = subst (λ (l : List PassValue). HasTakenFrom basis.parameters founder.view 0 l) (sym gathered.split) gathered.taken

  pub all_joined : All IsSome founder.view.joined
  all_joined = λ k d h.
      let long : length founder.view.joined ≡ basis.parameters.passes = gathered.count in
      let count : length given ≡ basis.parameters.passes = all.count in
      let other : PassValue = record {
        table = basis.table;
        parameters = basis.parameters;
        number = 0;
        seen = [];
        rows = [];
        calls = [];
        spare = 0;
        moves = 0;
        reads = 0;
        empty_looks = 0;
        last_empty = 0;
      } in
      let taken : HasTaken basis.parameters founder.view (0 + k) (get_or given k other) =
      taken_at basis.parameters founder.view 0 given k other taken_all (omega arith) in
      let at : 0 + k ≡ k = omega arith in
      subst IsSome (sym (get_or_default founder.view.joined k d None h ∙ (ap (λ (m : ℕ). get_or founder.view.joined m None) (sym at) ∙ taken.own))) refl

  callers_are : AreCallersOf (reverse callers) given
  callers_are = subst (λ (l : List PassValue). AreCallersOf (reverse callers) l) (sym gathered.split) gathered.callers_are

-- the regions of words at the end are among them
pub laid_out : (p : Parameters) (f : FounderView) (words : List ℕ) → IsClosed p f words → HaveRegions p.k p.s words
laid_out p f words closed = record {
  directory = (let count : length words ≡ basis_length p.k p.s p.passes = closed.count in
      let x : ℕ = (p.passes + p.k) * region_length p.k p.s in let count' : length words ≡ p.k + x = count in omega arith);
  regions = λ n below.
      let count : length words ≡ basis_length p.k p.s p.passes = closed.count in
      let x : ℕ = (p.passes + p.k) * region_length p.k p.s in
      let count' : length words ≡ p.k + x = count in
      let most : length_of p.k words ≤ p.k = directory_most p.k n words (omega arith) in
      let within = closed.within n below in
      let to : get_or words n 0 ≤ p.passes + p.k = omega (arith, within.1) in
      let fits : region_length p.k p.s * get_or words n 0 ≤ region_length p.k p.s * (p.passes + p.k) = mul-le-mul_left (region_length p.k p.s) to in
      (within.0, omega (arith, fits, count));
}

module _ (laws : RecordLaws) (histories : HistoryLaws) (p : Parameters) (f : FounderView) (words : List ℕ) (closed : IsClosed p f words)
    (are : AreParameters p) (count : length f.joined ≡ p.passes) where
  abbrev regions : List (List ℕ)
  regions = regions_of p.k p.s words

  abbrev records : List Record
  records = map (record_at p) regions

  narrow : All (λ region. caller_in region < 2 ^ 32) regions
  narrow = λ k d h.
      let below : caller_in (get_or regions k d) < length f.joined = callers_below (length f.joined) regions closed.others k d h in
      let few : p.passes ≤ 16 = are.few_passes in
      omega arith

  module _ (number : ℕ) (pass : PassValue) (taken : HasTaken p f number pass) where
    abbrev seen : List (List ℕ)
    seen = words_read taken.front

    abbrev later : List (List ℕ)
    later = drop (length taken.front.known) regions

    split : regions ≡ seen ++ later
    split = sym (take-append-drop (length taken.front.known) regions)
        ∙ ap (λ (l : List (List ℕ)). l ++ later) (sym ((taken.stands words closed.olds).regions taken.whole))

    -- what the pass has seen is the first part of all records
    pub seen_first : pass.seen ≡ take (length pass.seen) records
    seen_first =
        let all : records ≡ pass.seen ++ map (record_at p) later =
        ap (λ (l : List (List ℕ)). map (record_at p) l) split
        ∙ (map-append (record_at p) seen later ∙ ap (λ (l : List Record). l ++ map (record_at p) later) (sym taken.seen)) in
        sym (ap (λ (l : List Record). take (length pass.seen) l) all ∙ take_at pass.seen (map (record_at p) later) (length pass.seen) refl)

    -- its calls are legal over all records
    pub legal_to_end : IsLegalHistory p.equations.value (only pass.number pass.calls) records
    legal_to_end =
        let own : offers_of number (seen ++ later) ≡ offers_of number seen =
        ap (λ (l : List (List ℕ)). offers_of number l) (sym split) ∙ sym (closed.own number (offers_of number seen) taken.own) in
        subst (λ (m : ℕ). IsLegalHistory p.equations.value (only m pass.calls) records) (sym taken.number_is)
        (subst (λ (l : List (List ℕ)). IsLegalHistory p.equations.value (only number pass.calls) (map (record_at p) l)) (sym split)
        (legal_over laws histories p seen later number pass.calls are.k
        (subst (λ (l : List (List ℕ)). IsGood p l) split closed.good)
        (All-drop (λ region. caller_in region < 2 ^ 32) (length taken.front.known) regions narrow) own
        (subst (λ (l : List Record). IsLegalHistory p.equations.value (only number pass.calls) l) taken.seen taken.legal)))

-- what a closing tells
pub closes : RecordLaws → HistoryLaws → (basis : BasisValue) (given : List PassValue) (founder : SeatValue FounderView) (callers : List CallerTrace) (words : List ℕ)
    (closed : Closed) → AreParameters basis.parameters → AreAllPasses basis given → HasGathered basis given founder [] callers
    → IsClosed basis.parameters founder.view words
    → closed.records.items ≡ records_of_words basis.parameters.generation basis.parameters.k basis.parameters.s words
    → closed.rows.items ≡ rows_of_words basis.parameters.generation basis.parameters.k basis.parameters.s words
    → closed.callers.items ≡ reverse callers → IsCloseOf basis given closed
closes laws histories basis given founder callers words closed are all gathered is records_are rows_are callers_reversed =
    let p : Parameters = basis.parameters in
    let f : FounderView = founder.view in
    let good : IsGood p (regions_of p.k p.s words) = is.good in
    let taken : HasTakenFrom p f 0 given = taken_all basis given founder callers all gathered in
    let these : AreCallersOf (reverse callers) given = callers_are basis given founder callers all gathered in
    record {
      words = record { words = words; founder = f; closed = is; records_are = records_are; rows_are = rows_are };
      fit = subst (λ (l : List Record). All (Fits p.k p.s) (packets_of l)) (sym records_are) (seen_fit laws p (regions_of p.k p.s words) good);
      stand = subst (λ (l : List Packet). StandForAll p.k p.s (packets_of closed.records.items) l) (sym rows_are)
          (subst (λ (l : List Record). StandForAll p.k p.s (packets_of l) (rows_of_words p.generation p.k p.s words)) (sym records_are)
          (seen_stand laws p (regions_of p.k p.s words) good));
      seen = λ number other below. subst (λ (l : List Record). (get_or given number other).seen ≡ take (length (get_or given number other).seen) l) (sym records_are)
          (seen_first laws histories p f words is are gathered.count (0 + number) (get_or given number other) (taken_at p f 0 given number other taken below));
      count = ap length callers_reversed ∙ callers_count (reverse callers) given these;
      callers = λ number caller other below. subst (λ (l : List CallerTrace). caller_of_pass (get_or l number caller) (get_or given number other)) (sym callers_reversed)
          (caller_at (reverse callers) given number caller other these below);
      listed = subst (λ (l : List Record). All (λ entry. entry.caller < length given) l) (sym records_are)
          (All-map (λ entry. entry.caller < length given) (record_at p) (regions_of p.k p.s words) (λ at other below.
          subst (λ (n : ℕ). caller_in (get_or (regions_of p.k p.s words) at other) < n) (gathered.count ∙ sym all.count)
          (callers_below (length f.joined) (regions_of p.k p.s words) is.others at other below)));
      legal = subst (λ (l : List Record). IsLegalHistory p.equations.value (given_by (map calls_of given)) l) (sym records_are)
          (all_together histories p.equations.value (map (record_at p) (regions_of p.k p.s words)) (map calls_of given)
          (let count : length given ≡ p.passes = all.count in let some : 1 ≤ p.passes = are.some_passes in
          let long : length (map calls_of given) ≡ length given = length-map given calls_of in omega arith)
          (All-map (λ caller. IsLegalHistory p.equations.value (only caller.number caller.calls) (map (record_at p) (regions_of p.k p.s words))) calls_of given
          (λ number other below. legal_to_end laws histories p f words is are gathered.count (0 + number) (get_or given number other)
          (taken_at p f 0 given number other taken below))));
    }

-- the words of a table that was closed into an empty list
pub closed_words : (q p : Parameters) (f : FounderView) (before words : List ℕ) → q ≡ p → before ≡ [] → IsClosed q f (drop (length before) words) → IsClosed p f words
closed_words q p f before words same none closed =
    subst (λ (r : Parameters). IsClosed r f words) same (subst (λ (l : List ℕ). IsClosed q f (drop (length l) words)) none closed)

module _ (table : TableValue) (params : Params) (passes : ℕ) (is : IsBasis table params passes) where
  -- the same of a slice of the words, in the basis's own numbers
  pub laid_out_for : (f : FounderView) (words slice : List ℕ) → IsClosed table.parameters f words → slice ≡ words → HaveRegions params.k params.s slice
  laid_out_for f words slice closed same =
      subst (λ (l : List ℕ). HaveRegions params.k params.s l) (sym same)
      (subst (λ (k : ℕ). HaveRegions k params.s words) (sym is.k)
      (subst (λ (s : ℕ). HaveRegions table.parameters.k s words) (sym is.s) (laid_out table.parameters f words closed)))

  pub decoded_records : (p : Parameters) (words slice : List ℕ) (decoded : List Record) → table.parameters ≡ p
      → decoded ≡ records_of_words params.generation params.k params.s slice → slice ≡ words → decoded ≡ records_of_words p.generation p.k p.s words
  decoded_records p words slice decoded same are at =
      are ∙ ((λ i. records_of_words (is.generation i) (is.k i) (is.s i) (at i)) ∙ (λ i. records_of_words (same i).generation (same i).k (same i).s words))

  pub decoded_rows : (p : Parameters) (words slice : List ℕ) (decoded : List Packet) → table.parameters ≡ p
      → decoded ≡ rows_of_words params.generation params.k params.s slice → slice ≡ words → decoded ≡ rows_of_words p.generation p.k p.s words
  decoded_rows p words slice decoded same are at =
      are ∙ ((λ i. rows_of_words (is.generation i) (is.k i) (is.s i) (at i)) ∙ (λ i. rows_of_words (same i).generation (same i).k (same i).s words))

-- a list that was written over by its items in reverse order
pub turned_round : {X : Type 0} (items turned : List X) → turned ≡ reverse items → take (length items) (turned ++ drop (length turned) items) ≡ reverse items
turned_round items turned is =
    take_at turned (drop (length turned) items) (length items) (ap length is ∙ length-reverse items) ∙ is
