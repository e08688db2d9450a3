-- What the workers of a relay may receive, and what the closed bases hold of it.
use Rattle.std.proofs.Common.{◌≡◌, ℕ, ◌+◌, ◌%◌, ◌<◌, ◌≤◌, List, [], ◌∷◌, ◌++◌, length, get_or, sym, refl, ap, ◌∙◌, subst, arith, ne_eqb}
use Rattle.std.specs.Prelude.{Bool, cond, ◌==◌}
use Rattle.std.specs.List.{filter}
use Rattle.std.proofs.lemmas.List.{get_or-map}
use Rattle.linear_spec.specs.declared.equations.Equations.{Equations}
use Rattle.linear_spec.specs.declared.packet.Packet.{Packet}
use Rattle.basis_core.specs.Calls.{KeptCall}
use Rattle.shared_basis.specs.declared.params.Closed.{Closed}
use Rattle.shared_basis.specs.Bases.{BasisValue, PassValue}
use Rattle.receive_pass.specs.declared.worker.TaggedPacket.{TaggedPacket}
use Rattle.receive_pass.specs.declared.worker.Worker.{Worker}
use Rattle.receive_pass.specs.Workers.{AreOffersOf, HasOffered, HasReceived, of_generation}
use Rattle.shared_reception.specs.declared.sends.Sending.{Sending}
use Rattle.shared_reception.specs.Dealing.{dealt_to, inbox_of, tagged_from}
use Rattle.shared_reception.specs.Relayed.{IsRelayedBy, draws_of}
use Rattle.shared_reception.specs.Relaying.{HaveSender, IsRelayedOf}
use Rattle.shared_reception.specs.Steps.{AreDealt, HaveBases}
use Rattle.shared_reception.proofs.Lists.{some_of}
use Rattle.shared_reception.proofs.Receptions.{HistoryLaws, are_offers, closed_by, kept_by}

none_from : (receivers : ℕ) (packets : List Packet) (tag : ℕ) → 1 ≤ receivers → filter (λ tagged. tagged.tag % receivers == receivers) (tagged_from packets tag) ≡ []
none_from receivers [] tag some = refl
none_from receivers (packet ∷ packets) tag some =
    let others : List TaggedPacket = filter (λ (tagged : TaggedPacket). tagged.tag % receivers == receivers) (tagged_from packets (tag + 1)) in
    let below : tag % receivers < receivers = omega arith in
    ap (λ (b : Bool). cond b (record { tag = tag; packet = packet } ∷ others) others) (ne_eqb (tag % receivers) receivers (λ e. absurd (omega (arith, e, below))))
    ∙ none_from receivers packets (tag + 1) some

-- the sender gets no packets
pub none_for_sender : (receivers : ℕ) (packets : List Packet) → 1 ≤ receivers → inbox_of receivers receivers packets ≡ []
none_for_sender receivers packets some = none_from receivers packets 0 some

no_offers : (calls : List KeptCall) → AreOffersOf [] calls → calls ≡ []
no_offers [] offers = refl
no_offers (call ∷ calls) offers = absurd offers

-- a pass that was offered nothing has made no call, and has all its room
silent_pass : (inbox : List TaggedPacket) (room coded : ℕ) (before after : PassValue) → HasOffered inbox before after → inbox ≡ [] → before.calls ≡ []
    → room ≤ before.spare → coded ≤ room → (after.calls ≡ []) × (coded ≤ after.spare)
silent_pass inbox room coded before after gained empty new enough fits =
    let none : gained.more ≡ [] = no_offers gained.more (subst (λ (l : List TaggedPacket). AreOffersOf l gained.more) empty gained.offers) in
    let count : length gained.more ≡ 0 = ap length none in
    let spare = gained.spare in
    (gained.calls ∙ ap (λ (l : List KeptCall). l ++ gained.more) new ∙ none, omega arith)

-- the sender made no call, and has all its room
pub sender_left : (receivers room coded : ℕ) (packets : List Packet) (bases : List BasisValue) (dealt before after : List Worker) (equations : Equations)
    → 1 ≤ receivers → coded ≤ room → AreDealt receivers (receivers + 1) packets dealt → HaveBases equations room bases dealt before
    → ((at : ℕ) (other : Worker) → at < length before → HasReceived (get_or before at other) (get_or after at other))
    → length after ≡ length before → HaveSender coded after
sender_left receivers room coded packets bases dealt before after equations some enough parts have received same =
    let many : length after ≡ receivers + 1 = same ∙ have.count ∙ parts.count in
    let silent : (number generation : ℕ) (worker : Worker) (pass : PassValue) → number + 1 ≡ length after → generation < length (get_or after number worker).passes.items
    → ((get_or (get_or after number worker).passes.items generation pass).calls ≡ [])
    × (coded ≤ (get_or (get_or after number worker).passes.items generation pass).spare) =
    λ number generation worker pass is low.
    let last : number ≡ receivers = omega arith in
    let dealt_there : number < length dealt = omega (arith, parts.count) in
    let before_there : number < length before = omega (arith, same) in
    let new = have.passes number worker dealt_there in
    let passes = (received number worker before_there).passes in
    let here : generation < length bases = omega (arith, new.count, passes.count) in
    let was = new.each generation (some_of bases generation here) pass here in
    let gained = passes.each generation pass (subst (λ (n : ℕ). generation < n) (sym new.count) here) in
    let inbox : (get_or before number worker).inbox.items ≡ [] =
    ap (λ l. l.items) (have.inboxes number worker dealt_there) ∙ parts.inboxes number worker (omega arith)
    ∙ ap (λ (n : ℕ). inbox_of receivers n packets) last ∙ none_for_sender receivers packets some in
    silent_pass (of_generation generation (get_or before number worker).inbox.items) room coded
    (get_or (get_or before number worker).passes.items generation pass) (get_or (get_or after number worker).passes.items generation pass)
    gained (ap (of_generation generation) inbox) was.calls was.spare enough in
    record {
      some = omega arith;
      calls = λ number generation worker pass is low. (silent number generation worker pass is low).0;
      spare = λ number generation worker pass is low. (silent number generation worker pass is low).1;
    }

-- the closed basis of a generation holds what was received and drawn
pub is_relayed : HistoryLaws → (equations : Equations) (receivers room generation : ℕ) (packets : List Packet) (sending : Sending) (bases : List BasisValue)
    (dealt before after : List Worker) (closed : Closed) → 1 ≤ receivers → AreDealt receivers (receivers + 1) packets dealt → HaveBases equations room bases dealt before
    → ((at : ℕ) (other : Worker) → at < length before → HasReceived (get_or before at other) (get_or after at other))
    → length after ≡ length before → generation < length bases → IsRelayedOf sending bases after generation closed
    → IsRelayedBy equations receivers generation packets sending closed
is_relayed laws equations receivers room generation packets sending bases dealt before after closed some parts have received same low is =
    let basis : BasisValue = some_of bases generation low in
    let relayed = is.relayed basis in
    let made = have.made generation basis low in
    let passes = is.passes in
    let closing = relayed.closing in
    let many : length passes ≡ receivers + 1 = is.are.count ∙ same ∙ have.count ∙ parts.count in
    let count : length closing ≡ receivers + 1 = relayed.count ∙ many in
    let numbered : (number : ℕ) (other : PassValue) → number < length closing → (get_or closing number other).number ≡ number =
    λ number other in_range. relayed.numbers number other (subst (λ (n : ℕ). number < n) relayed.count in_range) in
    let by = closed_by laws equations generation (receivers + 1) (get_or bases generation basis) (length dealt) closing closed (omega arith) count made numbered relayed.closes in
    let sender_there : receivers < length closing = omega (arith, count) in
    let sender : PassValue = some_of closing receivers sender_there in
    record {
      fit = by.fit;
      stand = by.stand;
      count = by.count;
      numbers = by.numbers;
      kept = kept_by closing;
      calls = by.calls;
      listed = λ i e in_range. let listed = relayed.listed i e in_range in omega arith;
      offers = λ number in_range.
          let there : number < length closing = omega (arith, count) in
          let then : number < length passes = omega (arith, many) in
          let pass : PassValue = some_of passes number then in
          let kept : kept_by passes number ≡ kept_by closing number =
          get_or-map (λ (p : PassValue). p.calls) passes number pass [] then ∙ sym (relayed.receivers number pass (omega arith))
          ∙ sym (get_or-map (λ (p : PassValue). p.calls) closing number pass [] there) in
          subst (AreOffersOf (dealt_to receivers number generation packets)) kept
          (are_offers equations receivers (receivers + 1) room generation packets bases dealt before after passes parts have received same low is.are number (omega arith));
      draws =
          get_or-map (λ (p : PassValue). p.calls) closing receivers sender [] sender_there ∙ relayed.sender receivers sender (sym many)
          ∙ ap (λ (n : ℕ). draws_of sending n (length closed.records.items)) made.same_generation;
      legal = by.legal;
    }
