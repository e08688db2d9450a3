-- What workers receive, and what their passes gain by it.
-- bases: a basis for each generation, in order. before, after: a worker before it received its inbox and after it.
use Rattle.std.specs.Prelude.{◌≡◌, ℕ, ◌+◌, ◌<◌, ◌≤◌, ◌==◌, List, [], ◌∷◌, ◌++◌, length, slice_index_or}
use Rattle.std.specs.List.{All, filter}
use Rattle.linear_spec.specs.declared.equations.Equations.{Equations}
use Rattle.linear_spec.specs.Packet.{Fits}
use Rattle.basis_core.specs.Calls.{KeptCall, KeptOffer, KeptDraw}
use Rattle.shared_basis.specs.Bases.{BasisValue, PassValue}
use Rattle.shared_basis.specs.Passes.{IsPassOf, SeesOn}
use Rattle.receive_pass.specs.declared.worker.TaggedPacket.{TaggedPacket}
use Rattle.receive_pass.specs.declared.worker.Worker.{Worker}

-- the basis at each place has that place as its generation, and these equations
pub record AreBases (equations : Equations) (bases : List BasisValue) : Type 0 where
  pub generation : (at : ℕ) (other : BasisValue) → at < length bases → (slice_index_or bases at other).parameters.generation ≡ at
  pub equations_are : (at : ℕ) (other : BasisValue) → at < length bases
      → (slice_index_or bases at other).parameters.equations.value ≡ equations

-- the packet has the equations' lengths, and its generation has a basis
pub record IsReceivable (equations : Equations) (bases : List BasisValue) (tagged : TaggedPacket) : Type 0 where
  pub fits : Fits equations.k equations.s tagged.packet
  pub generation : tagged.packet.generation < length bases

-- there is one pass for each basis, at its place, with room for so many calls
pub record HavePasses (bases : List BasisValue) (room : ℕ) (passes : List PassValue) : Type 0 where
  pub count : length passes ≡ length bases
  pub each : (at : ℕ) (pass : PassValue) (basis : BasisValue) → at < length bases
      → IsPassOf (slice_index_or bases at basis) (slice_index_or passes at pass)
  pub room_is : (at : ℕ) (pass : PassValue) → at < length bases → room ≤ (slice_index_or passes at pass).spare

-- a worker that may receive its inbox
pub record IsReady (equations : Equations) (bases : List BasisValue) (worker : Worker) : Type 0 where
  pub bases_are : AreBases equations bases
  pub passes_are : HavePasses bases (length worker.inbox.items) worker.passes.items
  pub inbox_is : All (IsReceivable equations bases) worker.inbox.items

-- the packets of a generation, in order
abbrev pub of_generation : ℕ → List TaggedPacket → List TaggedPacket
of_generation generation inbox = filter (λ tagged. tagged.packet.generation == generation) inbox

-- the calls are the offers of these packets, in order, each with the packet's tag
abbrev pub AreOffersOf : List TaggedPacket → List KeptCall → Type 0
AreOffersOf [] [] = Unit {0}
AreOffersOf [] (call ∷ calls) = ⊥
AreOffersOf (tagged ∷ inbox) [] = ⊥
AreOffersOf (tagged ∷ inbox) (KeptDraw tag drawn ∷ calls) = ⊥
AreOffersOf (tagged ∷ inbox) (KeptOffer tag packet reply ∷ calls) = (tag ≡ tagged.tag) × (packet ≡ tagged.packet) × AreOffersOf inbox calls

-- a pass has seen on, and has gained the offers of these packets as its last calls, and no others
pub record HasOffered (inbox : List TaggedPacket) (before after : PassValue) : Type 0 where
  pub sees : SeesOn before after
  pub more : List KeptCall
  pub calls : after.calls ≡ before.calls ++ more
  pub offers : AreOffersOf inbox more
  pub spare : after.spare + length more ≡ before.spare

-- the pass at each place has gained the offers of these packets of its generation
pub record HaveOffered (inbox : List TaggedPacket) (before after : List PassValue) : Type 0 where
  pub count : length after ≡ length before
  pub each : (at : ℕ) (other : PassValue) → at < length before
      → HasOffered (of_generation at inbox) (slice_index_or before at other) (slice_index_or after at other)

-- a worker has received its inbox
pub record HasReceived (before after : Worker) : Type 0 where
  pub caller : after.caller ≡ before.caller
  pub inbox : after.inbox ≡ before.inbox
  pub passes : HaveOffered before.inbox.items before.passes.items after.passes.items
