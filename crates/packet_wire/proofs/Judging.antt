-- Judgements in a row.
use Rattle.std.proofs.Common.{◌≡◌, ◌≢◌, ℕ, Bool, true, false, not, ◌&&◌, ◌==◌, if◌then◌else◌, List, [], ◌∷◌, ◌++◌, Option, Some, None, IsNone, is_some, refl, ap}
use Rattle.packet_wire.specs.declared.fault.WireFault.{WireFault}
use Rattle.packet_wire.specs.declared.phase.Phase.{Phase}
use Rattle.packet_wire.specs.declared.phase.Phase.TheVariants.{BeforeManifest, BeforeTicket, BeforeEnd, Ended}
use Rattle.packet_wire.specs.Judgements.{Judgement, body_judgements, first_failure, head_judgements, judgements}

pub none : (o : Option WireFault) → IsNone o → o ≡ None
none None is = refl
none (Some f) is = absurd cc

pub is_none : (o : Option WireFault) → o ≡ None → IsNone o
is_none o is = ap is_some is

-- ---- two rows of judgements, one after the other

chosen_first : (b : Bool) (f : WireFault) (r r' : Option WireFault) (f' : WireFault) → (r ≡ Some f' → r' ≡ Some f') → (if b then Some f else r) ≡ Some f' → (if b then Some f else r') ≡ Some f'
chosen_first true f r r' f' more is = is
chosen_first false f r r' f' more is = more is

pub first_of_both : (xs ys : List Judgement) (count : ℕ) (f : WireFault) → first_failure xs count ≡ Some f → first_failure (xs ++ ys) count ≡ Some f
first_of_both [] ys count f is = absurd cc
first_of_both (j ∷ js) ys count f is =
    chosen_first (j.at == count && not j.passes) _ (first_failure js count) (first_failure (js ++ ys) count) f (first_of_both js ys count f) is

chosen_second : (b : Bool) (f : WireFault) (r r' s : Option WireFault) → (r ≡ None → r' ≡ s) → (if b then Some f else r) ≡ None → (if b then Some f else r') ≡ s
chosen_second true f r r' s more is = absurd cc
chosen_second false f r r' s more is = more is

pub second_of_both : (xs ys : List Judgement) (count : ℕ) → first_failure xs count ≡ None → first_failure (xs ++ ys) count ≡ first_failure ys count
second_of_both [] ys count is = refl
second_of_both (j ∷ js) ys count is =
    chosen_second (j.at == count && not j.passes) _ (first_failure js count) (first_failure (js ++ ys) count) (first_failure ys count) (second_of_both js ys count) is

pub head_then_body : (phase : Phase) (front : List ℕ) → phase ≢ Ended → judgements phase front ≡ head_judgements phase front ++ body_judgements phase front
unfolding judgements
head_then_body BeforeManifest front not-ended = refl
head_then_body (BeforeTicket shape) front not-ended = refl
head_then_body (BeforeEnd shape) front not-ended = refl
head_then_body Ended front not-ended = absurd (not-ended refl)
