-- What the sender of one basis sees, and what it draws.
use Rattle.std.proofs.Common.{◌≡◌, ℕ, ◌+◌, ◌*◌, ◌<◌, ◌≤◌, List, [], ◌∷◌, ◌++◌, length, map, get_or, set, sym, refl, ap, ◌∙◌, subst, arith, eq-eqb, ne_eqb, length-append, append_assoc}
use Rattle.std.specs.Prelude.{Bool, None, cond}
use Rattle.std.specs.List.{range_with_len}
use Rattle.std.proofs.lemmas.List.{append-nil, get_or_default, length-map}
use Rattle.std.proofs.lemmas.List.Elements.{All-nil, All-push, All-same}
use Rattle.std.proofs.lemmas.List.FromFn.{map-range_with_len_more}
use Rattle.linear_spec.specs.declared.packet.Packet.{Packet}
use Rattle.linear_spec.specs.Packet.{zeros_of}
use Rattle.linear_spec.specs.declared.record.Drawn.{Drawn}
use Rattle.linear_spec.specs.declared.record.Drawn.TheVariants.{Sent, Nothing}
use Rattle.linear_spec.specs.declared.record.Record.{Record}
use Rattle.linear_spec.specs.SequentialBasis.{packets_of}
use Rattle.basis_core.specs.Calls.{IsDrawnAt, KeptCall, KeptDraw, recorded_by}
use Rattle.basis_core.specs.Legal.{HaveSeenAtMost}
use Rattle.recode.specs.Draws.{drawn_over, drawn_packet, left_by, tag_of_draw}
use Rattle.shared_basis.specs.Bases.{PassValue}
use Rattle.shared_basis.specs.Passes.{HasCalled, HasNotCalled, SeesOn}
use Rattle.shared_reception.specs.declared.sends.SentDraw.{SentDraw}
use Rattle.shared_reception.specs.declared.sends.Sending.{Sending}
use Rattle.shared_reception.specs.Relayed.{sent_draw}
use Rattle.shared_reception.specs.Relaying.{AreQuiet, HasDrawn, HasMet, HaveMet}
use Rattle.shared_reception.proofs.Changes.{AreChangedBelow, changed_as, changed_more}

pub sees_itself : (pass : PassValue) → SeesOn pass pass
sees_itself pass = record { table = refl; parameters = refl; number = refl; prefix = ([], sym (append-nil pass.seen)) }

pub sees_through : (first next last : PassValue) → SeesOn first next → SeesOn next last → SeesOn first last
sees_through first next last early late = record {
  table = late.table ∙ early.table;
  parameters = late.parameters ∙ early.parameters;
  number = late.number ∙ early.number;
  prefix = (
    early.prefix.0 ++ late.prefix.0,
    late.prefix.1 ∙ ap (λ (l : List Record). l ++ late.prefix.0) early.prefix.1 ∙ append_assoc first.seen early.prefix.0 late.prefix.0,
  );
}

pub sees_more : (before after : PassValue) → SeesOn before after → length before.seen ≤ length after.seen
sees_more before after sees =
    omega (arith, ap length sees.prefix.1, length-append before.seen sees.prefix.0)

none_later : (seen later all : List Record) → all ≡ seen ++ later → length all ≡ length seen → all ≡ seen
none_later seen [] all is same = is ∙ append-nil seen
none_later seen (one ∷ later) all is same = absurd (omega (arith, ap length is, length-append seen (one ∷ later)))

-- a pass that saw no more records has seen the same
pub sees_same : (before after : PassValue) → SeesOn before after → length after.seen ≡ length before.seen → after.seen ≡ before.seen
sees_same before after sees same = none_later before.seen sees.prefix.0 after.seen sees.prefix.1 same

pub not_called_through : (first next last : PassValue) → HasNotCalled first next → HasNotCalled next last → HasNotCalled first last
not_called_through first next last early late = record { calls = late.calls ∙ early.calls; spare = late.spare ∙ early.spare }

-- a receiver has met the sender
abbrev pub MetBy : PassValue → ℕ → PassValue → PassValue → Type 0
MetBy sender number before after = HasMet before after sender

-- the next receiver meets the sender
pub met_more : (count : ℕ) (before now : List PassValue) (sender later new was : PassValue) → AreChangedBelow (MetBy sender) count before now → count < length before
    → SeesOn sender later → SeesOn (get_or now count was) new → HasNotCalled (get_or now count was) new → HaveSeenAtMost (length new.seen) new.calls
    → later.seen ≡ new.seen → AreChangedBelow (MetBy later) (count + 1) before (set now count new)
met_more count before now sender later new was below low onward sees quiet at_most one =
    let earlier : AreChangedBelow (MetBy later) count before now =
    changed_as (MetBy sender) (MetBy later) count before now (λ number x y in_range met.
    let more = sees_more sender later onward in
    let within = met.within in
    record { sees = met.sees; quiet = met.quiet; at_most = met.at_most; within = omega arith }) below in
    changed_more (MetBy later) count before now new earlier low (λ other.
    let same : get_or now count was ≡ get_or before count other =
    get_or_default now count was other (subst (λ (n : ℕ). count < n) (sym below.length_is) low) ∙ below.left count other (omega arith) in
    record {
      sees = subst (λ (p : PassValue). SeesOn p new) same sees;
      quiet = subst (λ (p : PassValue). HasNotCalled p new) same quiet;
      at_most = at_most;
      within = let e : length later.seen ≡ length new.seen = ap length one in omega arith;
    })

pub met_all : (count : ℕ) (before now : List PassValue) (sender : PassValue) → AreChangedBelow (MetBy sender) count before now → length before ≤ count
    → HaveMet before now sender
met_all count before now sender below all = record {
  count = below.length_is;
  each = λ number other low. below.changed number other (omega arith);
}

-- a draw's answer is the one over the records that were seen
pub drawn_is : (front : List Packet) (drawn : Drawn) → IsDrawnAt front drawn → drawn ≡ drawn_over (length front)
drawn_is front (Sent at) is =
    ap Sent is.1 ∙ ap (λ (b : Bool). cond b Nothing (Sent (length front))) (sym (ne_eqb (length front) 0 (λ e. absurd (omega (arith, e, is.0)))))
drawn_is front Nothing is =
    ap (λ (b : Bool). cond b Nothing (Sent (length front))) (sym (eq-eqb (length front) 0 is))

-- the sender has made so many draws. first: the number of the first one
pub record HasDrawnSome (k s : ℕ) (sending : Sending) (generation first place : ℕ) (before after : PassValue) (sent : List SentDraw) : Type 0 where
  pub sees : SeesOn before after
  pub quiet : AreQuiet after.calls
  pub calls : length after.seen ≡ length before.seen
      → after.calls ≡ map (λ q. KeptDraw (tag_of_draw sending.link q) (drawn_over (length before.seen))) (range_with_len first place)
  pub draws : length after.seen ≡ length before.seen → sent ≡ map (sent_draw k s sending generation before.seen) (range_with_len first place)

pub drawn_none : (k s : ℕ) (sending : Sending) (generation first : ℕ) (before : PassValue) (sent : List SentDraw) → before.calls ≡ [] → sent ≡ []
    → HasDrawnSome k s sending generation first 0 before before sent
drawn_none k s sending generation first before sent silent none = record {
  sees = sees_itself before;
  quiet = All-same (λ call. recorded_by call ≡ None) before.calls [] silent (All-nil (λ call. recorded_by call ≡ None));
  calls = λ _. silent;
  draws = λ _. none;
}

-- a draw over these records is what they determine
draw_is : (k s : ℕ) (sending : Sending) (generation q : ℕ) (records seen : List Record) (made : SentDraw) → seen ≡ records
    → IsDrawnAt (packets_of seen) made.drawn → made.generation ≡ generation → made.q ≡ q
    → made.packet ≡ left_by made.drawn (drawn_packet k s generation sending.key sending.link q (packets_of seen)) (zeros_of k s generation)
    → made.drawn ≡ drawn_over (length records) → made ≡ sent_draw k s sending generation records q
draw_is k s sending generation q records seen made same answered of_generation numbered packet drawn =
    let left : List Record → Drawn → Packet =
    λ (l : List Record) (d : Drawn). left_by d (drawn_packet k s generation sending.key sending.link q (packets_of l)) (zeros_of k s generation) in
    let told : made.packet ≡ left records (drawn_over (length records)) =
    packet ∙ ap (λ (l : List Record). left l made.drawn) same ∙ ap (left records) drawn in
    let whole : ℕ → ℕ → Drawn → Packet → SentDraw = λ (g n : ℕ) (d : Drawn) (p : Packet). record { generation = g; q = n; drawn = d; packet = p } in
    ap (λ (g : ℕ). whole g made.q made.drawn made.packet) of_generation
    ∙ ap (λ (n : ℕ). whole generation n made.drawn made.packet) numbered
    ∙ ap (λ (d : Drawn). whole generation q d made.packet) drawn
    ∙ ap (λ (p : Packet). whole generation q (drawn_over (length records)) p) told

-- the next draw
pub drawn_more : (k s : ℕ) (sending : Sending) (generation first place : ℕ) (before now after : PassValue) (made : SentDraw) (sent longer : List SentDraw)
    → HasDrawnSome k s sending generation first place before now sent → SeesOn now after → IsDrawnAt (packets_of after.seen) made.drawn
    → HasCalled now after (KeptDraw (tag_of_draw sending.link (first + place)) made.drawn) → made.generation ≡ generation → made.q ≡ first + place
    → made.packet ≡ left_by made.drawn (drawn_packet k s generation sending.key sending.link (first + place) (packets_of after.seen)) (zeros_of k s generation)
    → longer ≡ sent ++ made ∷ [] → HasDrawnSome k s sending generation first (place + 1) before after longer
drawn_more k s sending generation first place before now after made sent longer some sees answered called of_generation numbered packet is =
    let q : ℕ = first + place in
    let records : List Record = before.seen in
    let call : Drawn → KeptCall = λ (d : Drawn). KeptDraw (tag_of_draw sending.link q) d in
    let now_same : length after.seen ≡ length records → length now.seen ≡ length records =
    λ (same : length after.seen ≡ length records).
    let early = sees_more before now some.sees in let late = sees_more now after sees in omega arith in
    let seen_same : length after.seen ≡ length records → after.seen ≡ records =
    λ (same : length after.seen ≡ length records). sees_same before after (sees_through before now after some.sees sees) same in
    let drawn : length after.seen ≡ length records → made.drawn ≡ drawn_over (length records) =
    λ (same : length after.seen ≡ length records).
    drawn_is (packets_of after.seen) made.drawn answered ∙ ap drawn_over (length-map after.seen (λ (r : Record). r.packet) ∙ same) in
    record {
      sees = sees_through before now after some.sees sees;
      quiet = All-same (λ c. recorded_by c ≡ None) after.calls (now.calls ++ call made.drawn ∷ []) called.calls
          (All-push (λ c. recorded_by c ≡ None) now.calls (call made.drawn) some.quiet refl);
      calls = λ same.
          called.calls ∙ ap (λ (l : List KeptCall). l ++ call made.drawn ∷ []) (some.calls (now_same same))
          ∙ ap (λ (d : Drawn). map (λ n. KeptDraw (tag_of_draw sending.link n) (drawn_over (length records))) (range_with_len first place) ++ call d ∷ []) (drawn same)
          ∙ sym (map-range_with_len_more (λ n. KeptDraw (tag_of_draw sending.link n) (drawn_over (length records))) first place q refl);
      draws = λ same.
          is ∙ ap (λ (l : List SentDraw). l ++ made ∷ []) (some.draws (now_same same))
          ∙ ap (λ (d : SentDraw). map (sent_draw k s sending generation records) (range_with_len first place) ++ d ∷ [])
          (draw_is k s sending generation q records after.seen made (seen_same same) answered of_generation numbered packet (drawn same))
          ∙ sym (map-range_with_len_more (sent_draw k s sending generation records) first place q refl);
    }

pub drawn_all : (k s : ℕ) (sending : Sending) (generation first place : ℕ) (before after : PassValue) (sent : List SentDraw)
    → HasDrawnSome k s sending generation first place before after sent → first ≡ generation * sending.coded → place ≡ sending.coded
    → HasDrawn k s sending generation before after sent
drawn_all k s sending generation first place before after sent some from all = record {
  sees = some.sees;
  quiet = some.quiet;
  calls = λ same. some.calls same
      ∙ ap (λ (a : ℕ). map (λ q. KeptDraw (tag_of_draw sending.link q) (drawn_over (length before.seen))) (range_with_len a place)) from
      ∙ ap (λ (n : ℕ). map (λ q. KeptDraw (tag_of_draw sending.link q) (drawn_over (length before.seen))) (range_with_len (generation * sending.coded) n)) all;
  draws = λ same. some.draws same
      ∙ ap (λ (a : ℕ). map (sent_draw k s sending generation before.seen) (range_with_len a place)) from
      ∙ ap (λ (n : ℕ). map (sent_draw k s sending generation before.seen) (range_with_len (generation * sending.coded) n)) all;
}
