-- Workers with one pass each, on one basis.
use Rattle.std.proofs.Common.{◌≡◌, ℕ, ◌+◌, ◌<◌, ◌≤◌, List, [], ◌∷◌, ◌++◌, length, get_or, zero, suc, sym, subst, ◌∙◌, ap, arith}
use Rattle.std.specs.List.{All}
use Rattle.std.proofs.lemmas.List.{length-append}
use Rattle.linear_spec.specs.declared.equations.Equations.{Equations}
use Rattle.linear_spec.specs.declared.packet.Packet.{Packet}
use Rattle.linear_spec.specs.Packet.{Fits, coefficients_of}
use Rattle.linear_spec.specs.Symbols.{IsVector}
use Rattle.shared_basis.specs.Bases.{BasisValue, PassValue}
use Rattle.shared_basis.specs.Passes.{AreNewPasses, IsPassOf}
use Rattle.receive_pass.specs.declared.worker.TaggedPacket.{TaggedPacket}
use Rattle.receive_pass.specs.declared.worker.Worker.{Worker}
use Rattle.receive_pass.specs.Workers.{AreBases, HasReceived, HavePasses, IsReady, IsReceivable}
use Rattle.benchmarks.specs.Exchanges.{HasOnePass}
use Rattle.benchmarks.specs.Offers.{HasFirstPass, IsOffered, IsOnlyBasis, IsRoomyPassOf}

-- what holds of all and of one more
pub all_more : {X : Type 0} (P : X → Type 0) (items : List X) (item : X) → All P items → P item → All P (items ++ item ∷ [])
all_more P [] item all last zero other below = last
all_more P [] item all last (suc at) other below = absurd (omega arith)
all_more P (first ∷ items) item all last zero other below = all zero other (omega arith)
all_more P (first ∷ items) item all last (suc at) other below =
    all_more P items item (λ place rest before. all (suc place) rest (omega arith)) last at other (omega arith)

-- what holds of all but the last
pub all_less : {X : Type 0} (P : X → Type 0) (items : List X) (item : X) → All P (items ++ item ∷ []) → All P items
all_less P [] item all at other below = absurd (omega arith)
all_less P (first ∷ items) item all zero other below = all zero other (omega arith)
all_less P (first ∷ items) item all (suc at) other below =
    all_less P items item (λ place rest before. all (suc place) rest (omega arith)) at other (omega arith)

-- what holds of the last
pub all_last : {X : Type 0} (P : X → Type 0) (items : List X) (item : X) → All P (items ++ item ∷ []) → P item
all_last P [] item all = all 0 item (omega arith)
all_last P (first ∷ items) item all = all_last P items item (λ place rest before. all (suc place) rest (omega arith))

-- one more worker and one pass less
pub one_on : (workers more : List Worker) (worker : Worker) (passes left : List PassValue) (pass : PassValue) (count : ℕ)
    → more ≡ workers ++ worker ∷ [] → passes ≡ left ++ pass ∷ [] → length workers + length passes ≡ count → length more + length left ≡ count
one_on workers more worker passes left pass count pushed popped sum =
    let one : length more ≡ length workers + length (worker ∷ []) = ap length pushed ∙ length-append workers (worker ∷ []) in
    let two : length passes ≡ length left + length (pass ∷ []) = ap length popped ∙ length-append left (pass ∷ []) in
    omega arith

-- what holds at the place 0 holds at each place below 1
at_zero : (P : ℕ → Type 0) → P 0 → (at : ℕ) → at < 1 → P at
at_zero P first zero below = first
at_zero P first (suc at) below = absurd (omega arith)

-- the only basis is that of its generation
are_bases : (equations : Equations) (bases : List BasisValue) → IsOnlyBasis equations bases → AreBases equations bases
are_bases equations bases only = record {
  generation = λ at other below.
      at_zero (λ (n : ℕ). (get_or bases n other).parameters.generation ≡ n) (only.generation other) at (subst (λ (n : ℕ). at < n) only.count below);
  equations_are = λ at other below.
      at_zero (λ (n : ℕ). (get_or bases n other).parameters.equations.value ≡ equations) (only.equations_are other) at (subst (λ (n : ℕ). at < n) only.count below);
}

-- room is enough for less
less_room : (pass : PassValue) (room most : ℕ) → most ≤ pass.spare → room ≤ most → room ≤ pass.spare
less_room pass room most long less = omega arith

-- one pass is there for the only basis
one_pass : (equations : Equations) (bases : List BasisValue) (room most : ℕ) (pass : PassValue) → IsOnlyBasis equations bases
    → IsRoomyPassOf bases most pass → room ≤ most → HavePasses bases room (pass ∷ [])
one_pass equations bases room most pass only of less = record {
  count = sym only.count;
  each = λ at other basis below.
      at_zero (λ (n : ℕ). IsPassOf (get_or bases n basis) (get_or (pass ∷ []) n other)) (of.is_of basis) at (subst (λ (n : ℕ). at < n) only.count below);
  room_is = λ at other below.
      at_zero (λ (n : ℕ). room ≤ (get_or (pass ∷ []) n other).spare) (less_room pass room most of.room_is less) at (subst (λ (n : ℕ). at < n) only.count below);
}

-- a worker with such a pass and packets of generation 0 is ready
pub ready_with : (equations : Equations) (bases : List BasisValue) (most : ℕ) (pass : PassValue) (inbox : List TaggedPacket) (worker : Worker)
    → IsOnlyBasis equations bases → IsRoomyPassOf bases most pass → length inbox ≤ most
    → All (λ tagged. IsOffered equations.k equations.s tagged.packet) inbox
    → worker.passes.items ≡ pass ∷ [] → worker.inbox.items ≡ inbox → IsReady equations bases worker
ready_with equations bases most pass inbox worker only of few offered own has = record {
  bases_are = are_bases equations bases only;
  passes_are =
      subst (λ (passes : List PassValue). HavePasses bases (length worker.inbox.items) passes) (sym own)
      (subst (λ (packets : List TaggedPacket). HavePasses bases (length packets) (pass ∷ [])) (sym has) (one_pass equations bases (length inbox) most pass only of few));
  inbox_is =
      subst (λ (packets : List TaggedPacket). All (IsReceivable equations bases) packets) (sym has)
      (λ at other below. record {
        fits = (offered at other below).fits;
        generation = subst (λ (n : ℕ). n < length bases) (sym (offered at other below).generation) (subst (λ (n : ℕ). 0 < n) (sym only.count) (omega arith));
      });
}

-- some basis, where one has to be named
no_basis : PassValue → BasisValue
no_basis pass = record { table = pass.table; parameters = pass.parameters; peer = 0 }

-- once inboxes were received the first worker still has its pass
pub first_received : (equations : Equations) (bases : List BasisValue) (before after : List Worker) → IsOnlyBasis equations bases
    → 0 < length before → All (IsReady equations bases) before → length after ≡ length before
    → ((at : ℕ) (other : Worker) → at < length before → HasReceived (get_or before at other) (get_or after at other))
    → HasFirstPass bases after
first_received equations bases before after only some ready same each =
    let some_bases : 0 < length bases = subst (λ (n : ℕ). 0 < n) (sym only.count) (omega arith) in
    record {
      some_bases = some_bases;
      some_workers = subst (λ (n : ℕ). 0 < n) (sym same) some;
      some_passes = λ worker.
          subst (λ (n : ℕ). 0 < n) (sym ((each 0 worker some).passes.count ∙ (ready 0 worker some).passes_are.count)) some_bases;
      pass = λ basis worker own.
          let had = (ready 0 worker some).passes_are in
          let is_of = had.each 0 own basis some_bases in
          let sees = ((each 0 worker some).passes.each 0 own (subst (λ (n : ℕ). 0 < n) (sym had.count) some_bases)).sees in
          record {
            table = sees.table ∙ is_of.table;
            parameters = sees.parameters ∙ is_of.parameters;
          };
    }

-- and each worker has one pass, of a basis with the same equations
pub each_has_one : (equations : Equations) (bases : List BasisValue) (before after : List Worker) → IsOnlyBasis equations bases
    → All (IsReady equations bases) before → length after ≡ length before
    → ((at : ℕ) (other : Worker) → at < length before → HasReceived (get_or before at other) (get_or after at other))
    → All (HasOnePass equations) after
each_has_one equations bases before after only ready same each at other below =
    let within : at < length before = subst (λ (n : ℕ). at < n) same below in
    let had = (ready at other within).passes_are in
    let received = (each at other within).passes in
    let some : 0 < length bases = subst (λ (n : ℕ). 0 < n) (sym only.count) (omega arith) in
    record {
      count = received.count ∙ had.count ∙ only.count;
      equations_are = λ own.
          let sees = (received.each 0 own (subst (λ (n : ℕ). 0 < n) (sym had.count) some)).sees in
          let kept = sees.parameters ∙ (had.each 0 own (no_basis own) some).parameters in
          ap (λ p. p.equations.value) kept ∙ only.equations_are (no_basis own);
    }

-- the passes of a new basis that is alone have room
pub new_roomy : (equations : Equations) (basis : BasisValue) (passes room : ℕ) (list : List PassValue) → AreNewPasses basis passes room list
    → All (IsRoomyPassOf (basis ∷ []) room) list
new_roomy equations basis passes room list new at other below =
    let own = new.each at other (subst (λ (n : ℕ). at < n) new.count below) in
    record {
      is_of = λ other'. own.is_of;
      room_is = own.spare;
    }

-- packets that fit have vectors of coefficients
pub coefficients_fit : (k s : ℕ) (packets : List Packet) → All (Fits k s) packets → All (IsVector k) (coefficients_of packets)
coefficients_fit k s [] fit at other below = absurd (omega arith)
coefficients_fit k s (packet ∷ packets) fit zero other below = (fit 0 packet (omega arith)).coeffs
coefficients_fit k s (packet ∷ packets) fit (suc at) other below =
    coefficients_fit k s packets (λ place rest before. fit (suc place) rest (omega arith)) at other (omega arith)
