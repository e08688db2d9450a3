-- Packets dealt one after another.
use Rattle.std.proofs.Common.{◌≡◌, ℕ, ◌+◌, ◌%◌, ◌<◌, ◌≤◌, List, [], ◌∷◌, ◌++◌, length, take, get_or, set, sym, refl, ap, suc, ◌∙◌, subst, arith, inl, inr, eq-eqb, ne_eqb}
use Rattle.std.specs.Prelude.{◌==◌, Bool, cond}
use Rattle.std.specs.List.{filter}
use Rattle.std.proofs.lemmas.List.{append-nil, get_or-set_other, get_or-set_same, length-set, length-take-le, take_more}
use Rattle.std.proofs.lemmas.List.Elements.{filter-append}
use Rattle.std.proofs.lemmas.List.Sums.{count_by-le-length, length-filter}
use Rattle.std.proofs.lemmas.Bool.{cases_eq}
use Rattle.linear_spec.specs.declared.packet.Packet.{Packet}
use Rattle.receive_pass.specs.declared.worker.TaggedPacket.{TaggedPacket}
use Rattle.receive_pass.specs.declared.worker.Worker.{Worker}
use Rattle.shared_reception.specs.Dealing.{inbox_of, tagged_from}
use Rattle.shared_reception.specs.Steps.{AreDealt}

pub tagged_append : (packets others : List Packet) (tag : ℕ) → tagged_from (packets ++ others) tag ≡ tagged_from packets tag ++ tagged_from others (tag + length packets)
tagged_append [] others tag = ap (λ (n : ℕ). tagged_from others n) (omega arith)
tagged_append (packet ∷ packets) others tag =
    let along : (tag + 1) + length packets ≡ tag + length (packet ∷ packets) = omega arith in
    ap (λ (l : List TaggedPacket). record { tag = tag; packet = packet } ∷ l)
    (tagged_append packets others (tag + 1) ∙ ap (λ (n : ℕ). tagged_from packets (tag + 1) ++ tagged_from others n) along)

pub length_tagged : (packets : List Packet) (tag : ℕ) → length (tagged_from packets tag) ≡ length packets
length_tagged [] tag = refl
length_tagged (packet ∷ packets) tag = ap suc (length_tagged packets (tag + 1))

-- an inbox has no more packets than the stream
pub inbox_within : (receivers number : ℕ) (packets : List Packet) → length (inbox_of receivers number packets) ≤ length packets
inbox_within receivers number packets =
    let test : TaggedPacket → Bool = λ tagged. tagged.tag % receivers == number in
    let passing = length-filter test (tagged_from packets 0) in
    let fewer = count_by-le-length test (tagged_from packets 0) in
    let all = length_tagged packets 0 in
    omega arith

-- one packet more, which is of an inbox
inbox_more : (receivers number tag : ℕ) (packets : List Packet) (packet : Packet) → tag < length packets → packet ≡ get_or packets tag packet
    → inbox_of receivers number (take (tag + 1) packets)
    ≡ inbox_of receivers number (take tag packets) ++ cond (tag % receivers == number) (record { tag = tag; packet = packet } ∷ []) []
inbox_more receivers number tag packets packet low is =
    let test : TaggedPacket → Bool = λ tagged. tagged.tag % receivers == number in
    let count : length (take tag packets) ≡ tag = length-take-le tag packets (omega arith) in
    let start : 0 + length (take tag packets) ≡ tag = omega arith in
    let next : take (tag + 1) packets ≡ take tag packets ++ packet ∷ [] =
    take_more packets tag packet low ∙ ap (λ (p : Packet). take tag packets ++ p ∷ []) (sym is) in
    ap (inbox_of receivers number) next
    ∙ ap (filter test) (tagged_append (take tag packets) (packet ∷ []) 0)
    ∙ filter-append test (tagged_from (take tag packets) 0) (tagged_from (packet ∷ []) (0 + length (take tag packets)))
    ∙ ap (λ (n : ℕ). inbox_of receivers number (take tag packets) ++ filter test (tagged_from (packet ∷ []) n)) start

-- the next packet is dealt
dealt_at : (receivers callers tag : ℕ) (packets : List Packet) (packet : Packet) (workers : List Worker) (new was : Worker) → 1 ≤ receivers → receivers ≤ callers
    → AreDealt receivers callers (take tag packets) workers → tag < length packets → packet ≡ get_or packets tag packet
    → new.inbox.items ≡ (get_or workers (tag % receivers) was).inbox.items ++ record { tag = tag; packet = packet } ∷ []
    → new.passes ≡ (get_or workers (tag % receivers) was).passes
    → AreDealt receivers callers (take (tag + 1) packets) (set workers (tag % receivers) new)
dealt_at receivers callers tag packets packet workers new was some many dealt low is gained same =
    let at : ℕ = tag % receivers in
    let within : at < callers = omega arith in
    let there : at < length workers = subst (λ (n : ℕ). at < n) (sym dealt.count) within in record {
      count = length-set workers at new ∙ dealt.count;
      inboxes = λ number other in_range.
          let tagged : TaggedPacket = record { tag = tag; packet = packet } in
          let more = inbox_more receivers number tag packets packet low is in
          elim (cases_eq number at) as (λ _. (get_or (set workers at new) number other).inbox.items ≡ inbox_of receivers number (take (tag + 1) packets)) [
            | inl here ↦
                let mine : (get_or workers at was).inbox.items ≡ inbox_of receivers number (take tag packets) =
                subst (λ (n : ℕ). (get_or workers n was).inbox.items ≡ inbox_of receivers number (take tag packets)) here (dealt.inboxes number was in_range) in
                ap (λ (n : ℕ). (get_or (set workers at new) n other).inbox.items) here
                ∙ ap (λ (w : Worker). w.inbox.items) (get_or-set_same workers at new other there)
                ∙ gained ∙ ap (λ (l : List TaggedPacket). l ++ tagged ∷ []) mine
                ∙ ap (λ (b : Bool). inbox_of receivers number (take tag packets) ++ cond b (tagged ∷ []) []) (sym (eq-eqb at number (sym here))) ∙ sym more
            | inr else ↦
                ap (λ (w : Worker). w.inbox.items) (get_or-set_other workers at number new other else)
                ∙ dealt.inboxes number other in_range
                ∙ sym (append-nil (inbox_of receivers number (take tag packets)))
                ∙ ap (λ (b : Bool). inbox_of receivers number (take tag packets) ++ cond b (tagged ∷ []) []) (sym (ne_eqb at number (λ e. else (sym e)))) ∙ sym more
          ];
      passes = λ number other in_range.
          elim (cases_eq number at) as (λ _. (get_or (set workers at new) number other).passes.items ≡ []) [
            | inl here ↦
                ap (λ (n : ℕ). (get_or (set workers at new) n other).passes.items) here
                ∙ ap (λ (w : Worker). w.passes.items) (get_or-set_same workers at new other there)
                ∙ ap (λ l. l.items) same ∙ dealt.passes at was within
            | inr else ↦ ap (λ (w : Worker). w.passes.items) (get_or-set_other workers at number new other else) ∙ dealt.passes number other in_range
          ];
    }

pub dealt_more : (receivers tag : ℕ) (packets : List Packet) (packet : Packet) (workers : List Worker) (new was : Worker) → 1 ≤ receivers → receivers ≤ length workers
    → AreDealt receivers (length workers) (take tag packets) workers → tag < length packets → packet ≡ get_or packets tag packet
    → new.inbox.items ≡ (get_or workers (tag % receivers) was).inbox.items ++ record { tag = tag; packet = packet } ∷ []
    → new.passes ≡ (get_or workers (tag % receivers) was).passes
    → AreDealt receivers (length (set workers (tag % receivers) new)) (take (tag + 1) packets) (set workers (tag % receivers) new)
dealt_more receivers tag packets packet workers new was some many dealt low is gained same =
    subst (λ (n : ℕ). AreDealt receivers n (take (tag + 1) packets) (set workers (tag % receivers) new)) (sym (length-set workers (tag % receivers) new))
    (dealt_at receivers (length workers) tag packets packet workers new was some many dealt low is gained same)
