-- Bases relayed and closed one after another, the last one first.
use Rattle.std.proofs.Common.{◌≡◌, ℕ, ◌+◌, ◌<◌, ◌≤◌, List, [], ◌∷◌, ◌++◌, length, map, reverse, get_or, sym, ap, ◌∙◌, subst, arith}
use Rattle.std.proofs.lemmas.List.{length_push, reverse-append, reverse-reverse}
use Rattle.linear_spec.specs.declared.equations.Equations.{Equations}
use Rattle.linear_spec.specs.declared.record.Record.{Record}
use Rattle.table_rows.specs.Seats.{IsMadeWith}
use Rattle.shared_basis.specs.declared.params.Closed.{Closed}
use Rattle.shared_basis.specs.Bases.{BasisValue, PassValue}
use Rattle.receive_pass.specs.declared.worker.Worker.{Worker}
use Rattle.shared_reception.specs.declared.sends.SentDraw.{SentDraw}
use Rattle.shared_reception.specs.declared.sends.Sending.{Sending}
use Rattle.shared_reception.specs.Relayed.{sent_from, sent_of}
use Rattle.shared_reception.specs.Relaying.{HasSender, HaveSender, IsRelayOf, IsRelayedOf}
use Rattle.shared_reception.specs.Steps.{AreMadeWith, HaveAllPasses}
use Rattle.shared_reception.proofs.Closings.{AreTaken}
use Rattle.shared_reception.proofs.Lists.{some_of}

-- the basis that was taken is made for its generation
pub taken_made : (equations : Equations) (bases rest : List BasisValue) (basis : BasisValue) (workers after : List Worker) (passes : List PassValue)
    → AreMadeWith equations (length workers) bases → AreTaken bases workers rest basis after passes
    → IsMadeWith basis.parameters (length rest) equations.k equations.s (length workers) equations
taken_made equations bases rest basis workers after passes made took =
    subst (λ (b : BasisValue). IsMadeWith b.parameters (length rest) equations.k equations.s (length workers) equations) (sym (took.basis_is basis))
    (made (length rest) basis took.within)

-- the last of the passes that were taken is the sender's
pub taken_sender : (coded : ℕ) (bases rest : List BasisValue) (basis : BasisValue) (workers after : List Worker) (passes : List PassValue) → HaveAllPasses bases workers
    → HaveSender coded workers → AreTaken bases workers rest basis after passes → HasSender coded passes
taken_sender coded bases rest basis workers after passes have sender took =
    let count : length passes ≡ length workers = took.of_generation.count in
    let some : 0 < length workers = let two = sender.some in omega arith in
    let worker : Worker = some_of workers 0 some in
    let within : (number : ℕ) → number + 1 ≡ length workers → length rest < length (get_or workers number worker).passes.items =
    λ number is. let all = have.counts number worker (omega arith) in let low = took.within in omega arith in
    let same : (number : ℕ) (other : PassValue) → number + 1 ≡ length workers
    → get_or passes number other ≡ get_or (get_or workers number worker).passes.items (length rest) other =
    λ number other is. took.of_generation.each number worker other (omega arith) in
    record {
      some = let two = sender.some in omega arith;
      calls = λ number other is.
          let last : number + 1 ≡ length workers = is ∙ count in
          ap (λ (p : PassValue). p.calls) (same number other last) ∙ sender.calls number (length rest) worker other last (within number last);
      spare = λ number other is.
          let last : number + 1 ≡ length workers = is ∙ count in
          subst (λ (p : PassValue). coded ≤ p.spare) (sym (same number other last)) (sender.spare number (length rest) worker other last (within number last));
    }

pub relayed_as : (sending : Sending) (bases rest : List BasisValue) (basis : BasisValue) (workers after : List Worker) (passes : List PassValue) (closed : Closed)
    → AreTaken bases workers rest basis after passes → IsRelayOf sending basis passes closed → IsRelayedOf sending bases workers (length rest) closed
relayed_as sending bases rest basis workers after passes closed took relayed = record {
  passes = passes;
  are = took.of_generation;
  relayed = λ other. subst (λ (b : BasisValue). IsRelayOf sending b passes closed) (took.basis_is other) relayed;
}

-- one generation's draws before those of the later generations
pub sent_more : (equations : Equations) (sending : Sending) (left rest : List BasisValue) (basis : BasisValue) (passes : ℕ) (list longer : List Closed) (closed : Closed)
    (draws sent more : List SentDraw) → left ≡ rest ++ basis ∷ [] → IsMadeWith basis.parameters (length rest) equations.k equations.s passes equations
    → draws ≡ sent_of basis.parameters.k basis.parameters.s sending basis.parameters.generation closed.records.items → more ≡ sent ++ reverse draws
    → longer ≡ list ++ closed ∷ []
    → reverse sent ≡ sent_from equations.k equations.s sending (length left) (map (λ c. c.records.items) (reverse list))
    → reverse more ≡ sent_from equations.k equations.s sending (length rest) (map (λ c. c.records.items) (reverse longer))
sent_more equations sending left rest basis passes list longer closed draws sent more popped made are is grown before =
    let k : ℕ = equations.k in
    let s : ℕ = equations.s in
    let records : List Record = closed.records.items in
    let one_less : length left ≡ length rest + 1 = ap length popped ∙ length_push rest basis in
    let turned : reverse longer ≡ closed ∷ reverse list = ap reverse grown ∙ reverse-append list (closed ∷ []) in
    let others : List (List Record) = map (λ (c : Closed). c.records.items) (reverse list) in
    let mine : draws ≡ sent_of k s sending (length rest) records =
    are ∙ ap (λ (n : ℕ). sent_of n basis.parameters.s sending basis.parameters.generation records) made.same_k
    ∙ ap (λ (n : ℕ). sent_of k n sending basis.parameters.generation records) made.same_s
    ∙ ap (λ (n : ℕ). sent_of k s sending n records) made.same_generation in
    ap reverse is ∙ reverse-append sent (reverse draws) ∙ ap (λ (l : List SentDraw). l ++ reverse sent) (reverse-reverse draws ∙ mine)
    ∙ ap (λ (l : List SentDraw). sent_of k s sending (length rest) records ++ l) (before ∙ ap (λ (n : ℕ). sent_from k s sending n others) one_less)
    ∙ ap (λ (l : List Closed). sent_from k s sending (length rest) (map (λ (c : Closed). c.records.items) l)) (sym turned)
