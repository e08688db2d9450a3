-- What one turn of an offer does to the view and the desk, and what turns come to one after another.
-- v, u, w: the view of a caller before a turn, between two and after. words: those of a region. more: regions that were found.
use Rattle.std.proofs.Common.{◌≡◌, ◌≢◌, ℕ, zero, suc, ◌+◌, ◌*◌, ◌^◌, ◌<◌, ◌==◌, Bool, true, false, List, [], ◌∷◌, ◌++◌, length, map, take, get_or, set, refl, sym, ap, ◌∙◌, subst, arith}
use Rattle.std.specs.Prelude.{Option, Some, cond, vec_len}
use Rattle.std.specs.List.{All}
use Rattle.std.proofs.Common.{eq-eqb}
use Rattle.std.proofs.Math.Nat.{add-mul}
use Rattle.std.proofs.lemmas.List.{append-nil, append_assoc, get_or_append_left, length-append, length-map, length-replicate, map_push, take_more}
use Rattle.std.proofs.lemmas.List.Elements.{All-append, All-nil, All-push}
use Rattle.std.proofs.Math.Seq.{get_or-append_seam, set-append_seam, take-append_seam}
use Rattle.gf16.specs.Field.{IsField, sum_of}
use Rattle.gf16.specs.Sums.{plus_scaled}
use Rattle.linear_spec.specs.declared.packet.Packet.{Packet}
use Rattle.linear_spec.specs.declared.record.Record.{Record}
use Rattle.linear_spec.specs.declared.reply.Reply.{Reply}
use Rattle.linear_spec.specs.declared.reply.Reply.TheVariants.{Innovative}
use Rattle.linear_spec.specs.Cases.{IsFresh}
use Rattle.linear_spec.specs.Packet.{vector_of}
use Rattle.linear_spec.specs.Rows.{pivot_of, remainder_of}
use Rattle.linear_spec.specs.SequentialBasis.{IsCaseReply, recorded}
use Rattle.table_rows.specs.declared.view.CallerView.{CallerView}
use Rattle.table_rows.specs.declared.view.Front.{Front}
use Rattle.table_rows.specs.declared.view.Parameters.{Parameters}
use Rattle.table_rows.specs.Good.{HasRecord, IsNextRegion, offers_from, offers_of, packet_at, row_at}
use Rattle.table_rows.specs.Layout.{call_in, caller_in, row_in}
use Rattle.table_rows.specs.Steps.{IsSoundView, after_found, after_reads, after_win}
use Rattle.table_rows.specs.Views.{IsReadWhole, IsWhole, blank_row, row_with, width_of, with_region, with_words, words_of_row}
use Rattle.shared_basis.specs.declared.desk.Desk.{Desk}
use Rattle.shared_basis.specs.Desks.{HasLengths, IsDesk}
use Rattle.shared_basis.specs.Regions.{HasFound, HasReread, HasSettled, record_at, records_seen, regions_seen}

-- the offers of a number in two lists of regions, one after the other
offers_append : (number n : ℕ) (xs ys : List (List ℕ)) → offers_from number n (xs ++ ys) ≡ offers_from number n xs ++ offers_from number (n + length xs) ys
offers_append number n [] ys = ap (λ (m : ℕ). offers_from number m ys) (omega arith)
offers_append number n (x ∷ xs) ys =
    let rest : offers_from number (n + 1) (xs ++ ys) ≡ offers_from number (n + 1) xs ++ offers_from number (n + length (x ∷ xs)) ys =
    offers_append number (n + 1) xs ys ∙ ap (λ (m : ℕ). offers_from number (n + 1) xs ++ offers_from number m ys) (omega arith) in
    elim (caller_in x == number) as (λ b. cond b ((n, call_in x) ∷ offers_from number (n + 1) (xs ++ ys)) (offers_from number (n + 1) (xs ++ ys))
    ≡ cond b ((n, call_in x) ∷ offers_from number (n + 1) xs) (offers_from number (n + 1) xs) ++ offers_from number (n + length (x ∷ xs)) ys)
    [ true ↦ ap (λ (t : List (ℕ × ℕ)). (n, call_in x) ∷ t) rest | false ↦ rest ]

-- regions with no offers of a number do not name it
not_named : (number n : ℕ) (regions : List (List ℕ)) → length (offers_from number n regions) ≡ 0
    → (i : ℕ) (d : List ℕ) → i < length regions → caller_in (get_or regions i d) ≢ number
not_named number n [] e i d lt = λ is. omega arith
not_named number n (x ∷ xs) e zero d lt = λ is.
    let one : length (cond true ((n, call_in x) ∷ offers_from number (n + 1) xs) (offers_from number (n + 1) xs)) ≡ 0 =
    subst (λ (b : Bool). length (cond b ((n, call_in x) ∷ offers_from number (n + 1) xs) (offers_from number (n + 1) xs)) ≡ 0) (eq-eqb (caller_in x) number is) e in
    omega arith
not_named number n (x ∷ xs) e (suc i) d lt =
    let rest : length (offers_from number (n + 1) xs) ≡ 0 = (elim (caller_in x == number)
    as (λ b. length (cond b ((n, call_in x) ∷ offers_from number (n + 1) xs) (offers_from number (n + 1) xs)) ≡ 0 → length (offers_from number (n + 1) xs) ≡ 0)
    [ true ↦ λ f. absurd (omega arith) | false ↦ λ f. f ]) e in
    not_named number (n + 1) xs rest i d (omega arith)

-- regions behind which the own list did not grow are others'
others_behind : (number : ℕ) (regions more : List (List ℕ)) → offers_of number (regions ++ more) ≡ offers_of number regions
    → All (λ region. caller_in region ≢ number) more
others_behind number regions more e =
    let cut = offers_append number 0 regions more in
    let long : length (offers_of number regions ++ offers_from number (0 + length regions) more) ≡ length (offers_of number regions) = ap length (sym cut ∙ e) in
    let parts = length-append (offers_of number regions) (offers_from number (0 + length regions) more) in
    λ i d lt. not_named number (0 + length regions) more (omega arith) i d lt

-- regions that a caller found are others'
pub found_others : (more : List (List ℕ)) (v w : CallerView) → IsSoundView v → IsReadWhole v.sight.front → IsSoundView w → IsReadWhole w.sight.front
    → HasFound more v w → All (λ region. caller_in region ≢ v.number) more
found_others more v w sound whole sound_after whole_after found =
    let after : w.own ≡ offers_of v.number (regions_seen v ++ more) = sound_after.own whole_after
    ∙ (ap (λ n. offers_of n (regions_seen w)) found.number ∙ ap (offers_of v.number) found.regions) in
    others_behind v.number (regions_seen v) more (sym after ∙ (found.own ∙ sound.own whole))

-- at first nothing was found
pub found_none : (v : CallerView) → HasFound [] v v
found_none v = record {
  parameters = refl;
  number = refl;
  own = refl;
  regions = sym (append-nil (regions_seen v));
  moves = omega arith;
  reads = omega arith;
  empty_looks = refl;
  last_empty = refl;
}

-- the words of two lists of regions
width_more : (a b : List (List ℕ)) (width : ℕ) → length (a ++ b) * width ≡ length a * width + length b * width
width_more a b width = ap (λ n. n * width) (length-append a b) ∙ add-mul (length a) (length b) width

-- regions found after others
pub found_more : (a b : List (List ℕ)) (v u w : CallerView) → HasFound a v u → HasFound b u w → HasFound (a ++ b) v w
found_more a b v u w first then =
    let long = length-append a b in
    let wide = width_more a b (width_of v.sight.parameters) in
    let same : length b * width_of u.sight.parameters ≡ length b * width_of v.sight.parameters = ap (λ p. length b * width_of p) first.parameters in
    record {
      parameters = then.parameters ∙ first.parameters;
      number = then.number ∙ first.number;
      own = then.own ∙ first.own;
      regions = then.regions ∙ (ap (λ (l : List (List ℕ)). l ++ b) first.regions ∙ append_assoc (regions_seen v) a b);
      moves = (let m = first.moves in let n = then.moves in omega arith);
      reads = (let m = first.reads in let n = then.reads in omega arith);
      empty_looks = then.empty_looks ∙ first.empty_looks;
      last_empty = then.last_empty ∙ first.last_empty;
    }

-- an offer that was settled after regions were found
pub settled_after : (call : ℕ) (packet : Packet) (reply : Reply) (a : List (List ℕ)) (v u w : CallerView) → HasFound a v u
    → All (λ region. caller_in region ≢ v.number) a → HasSettled call packet u w reply → HasSettled call packet v w reply
settled_after call packet reply a v u w first others then =
    let b = then.more in
    let regions : regions_seen u ++ b ≡ regions_seen v ++ (a ++ b) = ap (λ (l : List (List ℕ)). l ++ b) first.regions ∙ append_assoc (regions_seen v) a b in
    let long = length-append a b in
    let seen : length (regions_seen u) ≡ length (regions_seen v) + length a = ap length first.regions ∙ length-append (regions_seen v) a in
    let wide = width_more a b (width_of v.sight.parameters) in
    let same : length b * width_of u.sight.parameters ≡ length b * width_of v.sight.parameters = ap (λ p. length b * width_of p) first.parameters in
    record {
      more = a ++ b;
      parameters = then.parameters ∙ first.parameters;
      number = then.number ∙ first.number;
      others = All-append (λ region. caller_in region ≢ v.number) a b others (subst (λ n. All (λ region. caller_in region ≢ n) b) first.number then.others);
      case = subst (λ (l : List (List ℕ)). IsCaseReply v.sight.parameters.k v.sight.parameters.s (map (packet_at v.sight.parameters) l) packet reply) regions
          (subst (λ p. IsCaseReply p.k p.s (map (packet_at p) (regions_seen u ++ b)) packet reply) first.parameters then.case);
      records = then.records
          ∙ (λ i. map (record_at (first.parameters i)) (regions i) ++ recorded (record { caller = first.number i; call = call; packet = packet }) reply);
      moves = (let m = first.moves in let n = then.moves in omega arith);
      reads = (let m = first.reads in let n = then.reads in omega arith);
      empty_looks = then.empty_looks ∙ first.empty_looks;
      last_empty = then.last_empty ∙ first.last_empty;
    }

-- how rows are filled, as a law says
pub record Filling : Type 0 where
  pub row : (row : List (Option ℕ)) (words : List ℕ) → length words ≡ length row → row_with row words ≡ map Some words
  pub whole : (words : List ℕ) → IsWhole (map Some words)
  pub back : (words : List ℕ) → words_of_row (map Some words) ≡ words

-- one row more, that is whole, is one region more
regions_more : Filling → (read : List (List (Option ℕ))) (words : List ℕ)
    → map words_of_row (read ++ map Some words ∷ []) ≡ map words_of_row read ++ words ∷ []
regions_more filling read words = map_push words_of_row read (map Some words) ∙ ap (λ (l : List ℕ). map words_of_row read ++ l ∷ []) (filling.back words)

-- rows that are whole, and one more
whole_more : Filling → (read : List (List (Option ℕ))) (words : List ℕ) → All IsWhole read → All IsWhole (read ++ map Some words ∷ [])
whole_more filling read words whole = All-push IsWhole read (map Some words) whole (filling.whole words)

-- a front with one region more, which was read
front_found : Filling → (front : Front) (n region width : ℕ) (words : List ℕ) → length front.read ≡ n → length words ≡ width
    → with_words (with_region front region (blank_row width)) n words ≡ record { known = front.known ++ region ∷ []; read = front.read ++ map Some words ∷ [] }
front_found filling front n region width words count long =
    let blank : List (Option ℕ) = blank_row width in
    let rows : List (List (Option ℕ)) = front.read ++ blank ∷ [] in
    let there : get_or rows n [] ≡ blank = subst (λ m. get_or rows m [] ≡ blank) count (get_or-append_seam front.read blank [] []) in
    let row : row_with blank words ≡ map Some words = filling.row blank words (long ∙ sym (length-replicate width _)) in
    let full : set rows n (row_with (get_or rows n []) words) ≡ set rows n (map Some words) =
    ap (λ (r : List (Option ℕ)). set rows n (row_with r words)) there ∙ ap (set rows n) row in
    let last : set rows n (map Some words) ≡ front.read ++ map Some words ∷ [] =
    subst (λ m. set rows m (map Some words) ≡ front.read ++ map Some words ∷ []) count (set-append_seam front.read blank [] (map Some words)) in
    λ i. record { known = front.known ++ region ∷ []; read = (full ∙ last) i }

-- a caller found a region, and read these words in it
pub record IsFound (v w : CallerView) (region : ℕ) (words : List ℕ) : Type 0 where
  pub found : HasFound (words ∷ []) v w
  pub whole : IsReadWhole w.sight.front
  pub draft : w.draft ≡ v.draft
  pub known : w.sight.front.known ≡ v.sight.front.known ++ region ∷ []

pub is_found : Filling → (v u w : CallerView) (written : List (Option ℕ)) (n region : ℕ) (words : List ℕ) → IsReadWhole v.sight.front
    → length v.sight.front.read ≡ n → length words ≡ width_of v.sight.parameters
    → u ≡ after_found (record v { written = written }) region → w ≡ after_reads u n words → IsFound v w region words
is_found filling v u w written n region words whole count long found read =
    let first : CallerView = after_found (record v { written = written }) region in
    let there : CallerView = after_reads first n words in
    let front : there.sight.front ≡ record { known = v.sight.front.known ++ region ∷ []; read = v.sight.front.read ++ map Some words ∷ [] } =
    front_found filling v.sight.front n region (width_of v.sight.parameters) words count long in
    let is : w ≡ there = read ∙ ap (λ t. after_reads t n words) found in
    subst (λ t. IsFound v t region words) (sym is) (record {
      found = record {
        parameters = refl;
        number = refl;
        own = refl;
        regions = ap (λ (f : Front). map words_of_row f.read) front ∙ regions_more filling v.sight.front.read words;
        moves = refl;
        reads = omega arith;
        empty_looks = refl;
        last_empty = refl;
      };
      whole = subst IsReadWhole (sym front) (whole_more filling v.sight.front.read words whole);
      draft = refl;
      known = ap (λ (f : Front). f.known) front;
    })

-- a caller appended its draft with these words
pub record IsWon (v w : CallerView) (words : List ℕ) : Type 0 where
  pub parameters : w.sight.parameters ≡ v.sight.parameters
  pub number : w.number ≡ v.number
  pub whole : IsReadWhole w.sight.front
  pub draft : w.draft ≡ v.sight.parameters.passes + length v.sight.front.known + 1
  pub known : w.sight.front.known ≡ v.sight.front.known ++ v.draft ∷ []
  pub regions : regions_seen w ≡ regions_seen v ++ words ∷ []
  pub moves : w.moves ≡ v.moves + 1
  pub reads : w.reads ≡ v.reads
  pub empty_looks : w.empty_looks ≡ v.empty_looks
  pub last_empty : w.last_empty ≡ v.last_empty

pub is_won : Filling → (v w : CallerView) (words : List ℕ) → IsReadWhole v.sight.front → w ≡ after_win (record v { written = map Some words }) → IsWon v w words
is_won filling v w words whole won = subst (λ t. IsWon v t words) (sym won) (record {
  parameters = refl;
  number = refl;
  whole = whole_more filling v.sight.front.read words whole;
  draft = refl;
  known = refl;
  regions = regions_more filling v.sight.front.read words;
  moves = refl;
  reads = refl;
  empty_looks = refl;
  last_empty = refl;
})

module _ (call : ℕ) (packet : Packet) (v w : CallerView) (front : ℕ) (count : front ≡ length (regions_seen v)) where
  abbrev p : Parameters
  p = v.sight.parameters

  abbrev packets : List Packet
  packets = map (packet_at p) (regions_seen v)

  -- no region was found before the reply
  no_more : packets ≡ map (packet_at p) (regions_seen v ++ [])
  no_more = ap (map (packet_at p)) (sym (append-nil (regions_seen v)))

  -- so the reply counts what was seen before
  front_is : front ≡ length (map (packet_at p) (regions_seen v ++ []))
  front_is = count ∙ (sym (length-map (regions_seen v) (packet_at p)) ∙ ap length no_more)

  -- an offer that was recorded at once
  pub settled_won : (words : List ℕ) → IsWon v w words → record_at p words ≡ record { caller = v.number; call = call; packet = packet }
      → IsFresh p.k packets packet → HasSettled call packet v w (Innovative front)
  settled_won words won named fresh =
      let long : length (regions_seen w) ≡ length (regions_seen v) + length (words ∷ []) = ap length won.regions ∙ length-append (regions_seen v) (words ∷ []) in
      record {
        more = [];
        parameters = won.parameters;
        number = won.number;
        others = All-nil (λ region. caller_in region ≢ v.number);
        case = (subst (λ (l : List Packet). IsFresh p.k l packet) no_more fresh, front_is);
        records = (λ i. map (record_at (won.parameters i)) (won.regions i)) ∙ (map_push (record_at p) (regions_seen v) words
            ∙ (λ i. map (record_at p) (sym (append-nil (regions_seen v)) i) ++ named i ∷ []));
        moves = (let m = won.moves in omega arith);
        reads = (let m = won.reads in omega arith);
        empty_looks = won.empty_looks;
        last_empty = won.last_empty;
      }

  -- an offer that was refused at once
  pub settled_refused : (reply : Reply) → w ≡ v → IsCaseReply p.k p.s packets packet reply
      → recorded {X = Record} (record { caller = v.number; call = call; packet = packet }) reply ≡ [] → HasSettled call packet v w reply
  settled_refused reply same case none = subst (λ t. HasSettled call packet v t reply) (sym same) (record {
    more = [];
    parameters = refl;
    number = refl;
    others = All-nil (λ region. caller_in region ≢ v.number);
    case = subst (λ (l : List Packet). IsCaseReply p.k p.s l packet reply) no_more case;
    records = sym ((λ i. map (record_at p) (append-nil (regions_seen v) i) ++ none i) ∙ append-nil (records_seen v));
    moves = omega arith;
    reads = omega arith;
    empty_looks = refl;
    last_empty = refl;
  })

-- as many packets are seen as regions
pub seen_count : (v : CallerView) (front : ℕ) → front ≡ length (regions_seen v) → front ≡ length (map (packet_at v.sight.parameters) (regions_seen v))
seen_count v front count = count ∙ sym (length-map (regions_seen v) (packet_at v.sight.parameters))

-- a row that was read in a region
pub record IsRowRead (p : Parameters) (words : List ℕ) (row : Packet) : Type 0 where
  pub lengths : HasLengths p row
  pub pivot_is : pivot_of row ≡ pivot_of (row_at p words)
  pub pivot_below : pivot_of row < length row.coeffs
  pub vector_is : vector_of row ≡ vector_of (row_at p words)

pub row_read : (p : Parameters) (before : List (List ℕ)) (words : List ℕ) → HasRecord p before words → (generation k s : ℕ) (row : Packet)
    → row ≡ row_in generation k s words → k ≡ p.k → s ≡ p.s → IsRowRead p words row
row_read p before words has generation k s row is of_k of_s =
    let there : row ≡ row_in generation p.k p.s words = is ∙ (λ i. row_in generation (of_k i) (of_s i) words) in
    let fits = has.stands.fits in
    let below : pivot_of (row_at p words) < length (row_at p words).coeffs = subst (λ n. pivot_of (row_at p words) < n) (sym fits.coeffs.count) has.stands.pivot_below in
    subst (IsRowRead p words) (sym there) (record {
      lengths = record { coeffs = fits.coeffs.count; payload = fits.payload.count };
      pivot_is = refl;
      pivot_below = below;
      vector_is = refl;
    })

-- what is left after one row more
pub left_more : ((rows : List Packet) (row : Packet) (vector : List ℕ) → remainder_of (rows ++ row ∷ []) vector
    ≡ plus_scaled (remainder_of rows vector) (get_or (remainder_of rows vector) (pivot_of row) 0) (vector_of row))
    → (p q : Parameters) (regions after : List (List ℕ)) (words vector left_before left_after : List ℕ) (row : Packet) → q ≡ p → after ≡ regions ++ words ∷ [] → IsRowRead p words row
    → left_before ≡ remainder_of (map (row_at p) regions) vector
    → left_after ≡ plus_scaled left_before (get_or left_before (pivot_of row) 0) (vector_of row)
    → left_after ≡ remainder_of (map (row_at q) after) vector
left_more last p q regions after words vector left_before left_after row same more read before reduced =
    let rows : List Packet = map (row_at p) regions in
    let left : List ℕ = remainder_of rows vector in
    let here : left_after ≡ plus_scaled left (get_or left (pivot_of (row_at p words)) 0) (vector_of (row_at p words)) =
    reduced ∙ (λ i. plus_scaled (before i) (get_or (before i) (read.pivot_is i) 0) (read.vector_is i)) in
    here ∙ (sym (last rows (row_at p words) vector) ∙ (ap (λ l. remainder_of l vector) (sym (map_push (row_at p) regions words))
    ∙ (λ i. remainder_of (map (row_at (sym same i)) (sym more i)) vector)))

-- what is left after the first rows and one more
pub left_next : ((rows : List Packet) (row : Packet) (vector : List ℕ) → remainder_of (rows ++ row ∷ []) vector
    ≡ plus_scaled (remainder_of rows vector) (get_or (remainder_of rows vector) (pivot_of row) 0) (vector_of row))
    → (rows : List Packet) (n : ℕ) (vector left_before left_after : List ℕ) → n < length rows → left_before ≡ remainder_of (take n rows) vector
    → ((row : Packet) → left_after ≡ remainder_of (get_or rows n row ∷ []) left_before) → left_after ≡ remainder_of (take (n + 1) rows) vector
left_next last rows n vector left_before left_after below before reduced =
    let none : Packet = record { generation = 0; coeffs = []; payload = [] } in
    let row : Packet = get_or rows n none in
    reduced none ∙ (ap (remainder_of (row ∷ [])) before ∙ (sym (last (take n rows) row vector) ∙ ap (λ l. remainder_of l vector) (sym (take_more rows n none below))))

-- a desk after one region more is known
pub desk_more : (d e : Desk) (region : ℕ) → IsDesk d → e.seat.view.sight.parameters ≡ d.seat.view.sight.parameters → IsSoundView e.seat.view
    → IsReadWhole e.seat.view.sight.front → e.draft ≡ e.seat.view.draft → e.seat.view.sight.front.known ≡ d.seat.view.sight.front.known ++ region ∷ []
    → e.known.items ≡ d.known.items ++ region ∷ [] → e.known.spare + 1 ≡ d.known.spare → vec_len e.words ≡ vec_len d.words
    → HasLengths d.seat.view.sight.parameters e.left → HasLengths d.seat.view.sight.parameters e.row → IsDesk e
desk_more d e region desk same sound whole draft front known spare words left row =
    let long : length e.known.items ≡ length d.known.items + length (region ∷ []) = ap length known ∙ length-append d.known.items (region ∷ []) in
    let room = desk.room in
    let k : e.seat.view.sight.parameters.k ≡ d.seat.view.sight.parameters.k = ap (λ p. p.k) same in
    record {
      sound = sound;
      whole = whole;
      draft = draft;
      known = known ∙ (ap (λ (l : List ℕ). l ++ region ∷ []) desk.known ∙ sym front);
      room = omega arith;
      words = words ∙ (desk.words ∙ ap width_of (sym same));
      narrow = subst (λ p. width_of p < 2 ^ 32) (sym same) desk.narrow;
      left = subst (λ p. HasLengths p e.left) (sym same) left;
      row = subst (λ p. HasLengths p e.row) (sym same) row;
    }

-- as many regions are known as are read
pub known_count : (d : Desk) → IsDesk d → length d.known.items ≡ length (regions_seen d.seat.view)
known_count d desk = ap length desk.known ∙ (sym desk.sound.shaped.sight.rows ∙ sym (length-map d.seat.view.sight.front.read words_of_row))

-- a region more is known where one more was found
pub known_more : (d e : Desk) (region : List ℕ) → IsDesk d → IsDesk e → HasFound (region ∷ []) d.seat.view e.seat.view
    → length e.known.items ≡ length d.known.items + 1
known_more d e region before after found =
    known_count e after ∙ (ap length found.regions ∙ (length-append (regions_seen d.seat.view) (region ∷ []) ∙ ap (λ n. n + 1) (sym (known_count d before))))

-- the region that was found has a record that came next
found_record : ((p : Parameters) (before : List (List ℕ)) (region : List ℕ) → IsNextRegion p before region → HasRecord p before region)
    → (v w : CallerView) (region : ℕ) (words : List ℕ) → IsSoundView w → IsFound v w region words → HasRecord v.sight.parameters (regions_seen v) words
found_record has v w region words sound is =
    let n = length (regions_seen v) in
    let all : regions_seen w ≡ regions_seen v ++ words ∷ [] = is.found.regions in
    let long : length (regions_seen w) ≡ n + length (words ∷ []) = ap length all ∙ length-append (regions_seen v) (words ∷ []) in
    let next : IsNextRegion w.sight.parameters (take n (regions_seen w)) (get_or (regions_seen w) n []) = sound.good is.whole n (omega arith) in
    let front : take n (regions_seen w) ≡ regions_seen v = ap (take n) all ∙ take-append_seam (regions_seen v) (words ∷ []) in
    let last : get_or (regions_seen w) n [] ≡ words = ap (λ (l : List (List ℕ)). get_or l n []) all ∙ get_or-append_seam (regions_seen v) words [] [] in
    subst (λ p. HasRecord p (regions_seen v) words) is.found.parameters
    (subst (λ l. HasRecord w.sight.parameters l words) front (subst (λ r. HasRecord w.sight.parameters (take n (regions_seen w)) r) last
    (has w.sight.parameters (take n (regions_seen w)) (get_or (regions_seen w) n []) next)))

-- an exchange was lost: a region was found, and its row was read
pub lost_row : Filling → ((p : Parameters) (before : List (List ℕ)) (region : List ℕ) → IsNextRegion p before region → HasRecord p before region)
    → (d : Desk) (u w : CallerView) (written : List (Option ℕ)) (region : ℕ) (words : List ℕ) (generation k s : ℕ) (row : Packet) → IsDesk d → IsSoundView w
    → length words ≡ width_of d.seat.view.sight.parameters → u ≡ after_found (record d.seat.view { written = written }) region
    → w ≡ after_reads u (length d.known.items) words → row ≡ row_in generation k s words → k ≡ d.seat.view.sight.parameters.k → s ≡ d.seat.view.sight.parameters.s
    → IsFound d.seat.view w region words × IsRowRead d.seat.view.sight.parameters words row
lost_row filling has d u w written region words generation k s row desk sound long found read row_is of_k of_s =
    let v = d.seat.view in
    let count : length v.sight.front.read ≡ length d.known.items = desk.sound.shaped.sight.rows ∙ sym (ap length desk.known) in
    let is = is_found filling v u w written (length d.known.items) region words desk.whole count long found read in
    (is, row_read v.sight.parameters (regions_seen v) words (found_record has v w region words sound is) generation k s row row_is of_k of_s)

-- a vector with 0 times another added is itself
none_added : IsField → (u v : List ℕ) → plus_scaled u 0 v ≡ u
none_added field [] v = refl
none_added field (x ∷ u) [] = refl
none_added field (x ∷ u) (y ∷ v) = λ i. (ap (sum_of x) (field.zero_product y) ∙ field.sum_zero x) i ∷ none_added field u v i

-- a row at whose pivot the packet has a 0 takes nothing from it
pub nothing_left_there : IsField → (left row : Packet) (pivot : ℕ) → pivot < length left.coeffs → pivot ≡ pivot_of row → get_or left.coeffs pivot 0 ≡ 0
    → vector_of left ≡ remainder_of (row ∷ []) (vector_of left)
nothing_left_there field left row pivot below is none =
    let here : get_or (vector_of left) (pivot_of row) 0 ≡ 0 = ap (λ n. get_or (vector_of left) n 0) (sym is)
    ∙ (get_or_append_left left.coeffs left.payload 0 pivot below ∙ none) in
    sym (ap (λ factor. plus_scaled (vector_of left) factor (vector_of row)) here ∙ none_added field (vector_of left) (vector_of row))

-- words that were read again, and then more
pub reread_on : (first more all : ℕ) (v u w : CallerView) → first + more ≡ all → HasReread first v u → HasReread more u w → HasReread all v w
reread_on first more all v u w sum before then = record {
  view = then.view ∙ ap (λ (x : CallerView). record x { reads = w.reads }) before.view;
  reads = (let a = before.reads in let b = then.reads in omega arith);
}
