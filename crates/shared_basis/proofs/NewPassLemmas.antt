-- Passes that have seen nothing and made no call, and the founder that numbers them.
use Rattle.std.proofs.Common.{◌≡◌, ⊎_elim, ◌⊎◌, ℕ, ◌+◌, ◌<◌, ◌≤◌, ◌^◌, Option, None, List, [], ◌∷◌, ◌++◌, length, get_or, replicate, refl, sym, ap, ◌∙◌, subst, arith}
use Rattle.std.specs.Prelude.{vec_len}
use Rattle.std.proofs.lemmas.List.{get_or_append_left, get_or_push, length-append, length-replicate, replicate-append-replicate}
use Rattle.std.proofs.lemmas.List.Elements.{All-nil}
use Rattle.linear_spec.specs.declared.equations.Equations.{Equations}
use Rattle.linear_spec.specs.declared.packet.Packet.{Packet}
use Rattle.linear_spec.specs.List.{ListValue}
use Rattle.basis_core.specs.declared.trace.Call.{Call}
use Rattle.basis_core.specs.Legal.{HaveSeenAtMost, IsLegalHistory}
use Rattle.basis_core.specs.Merge.{only}
use Rattle.basis_core.specs.Calls.{KeptCall}
use Rattle.table_rows.specs.declared.view.CallerView.{CallerView}
use Rattle.table_rows.specs.declared.view.FounderView.{FounderView}
use Rattle.table_rows.specs.declared.view.Parameters.{Parameters}
use Rattle.table_rows.specs.Seats.{SeatValue}
use Rattle.table_rows.specs.Steps.{IsSoundView}
use Rattle.table_rows.specs.Views.{IsPartOf, first_sight, new_caller, width_of}
use Rattle.table_rows.specs.declared.view.Front.{Front}
use Rattle.shared_basis.specs.declared.desk.Desk.{Desk}
use Rattle.shared_basis.specs.Bases.{AreParameters, BasisValue, HasFounder, IsPass, PassValue, kept_calls}
use Rattle.shared_basis.specs.Desks.{HasLengths}
use Rattle.shared_basis.specs.Passes.{AreNewPasses, IsNewPass}

-- what a new caller's view tells is sound
new_sound : (p : Parameters) (number : ℕ) → number < p.passes → IsSoundView (new_caller p number)
new_sound p number below = record {
  shaped = record {
    sight = record { count = omega arith; regions = All-nil _; rows = refl; wide = All-nil _ };
    draft = (omega arith, omega arith);
    written = length-replicate (width_of p) None;
  };
  olds = All-nil (λ (old : Front). IsPartOf old (first_sight p).front);
  good = λ _ n below. absurd (omega arith);
  own = λ _. refl;
  callers = λ _. All-nil _;
}

-- a pass whose seat is new and whose lists are empty
pub new_pass_is : ((equations : Equations) (number : ℕ) → number < 2 ^ 32 → IsLegalHistory equations (only number []) [])
    → (d : Desk) (founder : Option (SeatValue FounderView)) (p : Parameters) (number : ℕ) (calls : ListValue Call)
    (offered : List Packet) (offers_room spare : ℕ)
    → AreParameters p → d.seat.view ≡ new_caller p number → number < p.passes → HasFounder d.seat.table p number founder
    → d.draft ≡ number + 1 → d.known.items ≡ [] → p.k ≤ d.known.spare → vec_len d.words ≡ width_of p
    → width_of p < 2 ^ 32 → HasLengths p d.left → HasLengths p d.row
    → calls.items ≡ [] → offered ≡ [] → spare ≤ calls.spare → spare ≤ offers_room → spare < 2 ^ 32
    → IsPass d founder number calls offered offers_room spare
new_pass_is none d founder p number calls offered offers_room spare parameters view below is_founder draft known room words narrow left row no_calls no_offers calls_room offers_spare few =
    let kept : [] ≡ kept_calls calls.items offered = λ i. kept_calls (sym no_calls i) (sym no_offers i) in
    let no_length : length calls.items ≡ 0 = ap length no_calls in
    let few_passes = parameters.few_passes in
    subst (λ (v : CallerView). IsPass
    (record d { seat = record { table = d.seat.table; view = v } }) founder number calls offered offers_room spare)
    (sym view) (record {
      parameters = parameters;
      desk = record {
        sound = new_sound p number below;
        whole = All-nil _;
        draft = draft;
        known = known;
        room = let long : length d.known.items ≡ 0 = ap length known in omega arith;
        words = words;
        narrow = narrow;
        left = left;
        row = row;
      };
      number_is = refl;
      number_below = below;
      founder_is = is_founder;
      paired = ap length no_offers ∙ sym no_length;
      room = calls_room;
      room_beside = offers_spare;
      few = omega arith;
      legal = subst (λ (l : List KeptCall). IsLegalHistory p.equations.value (only number l) []) kept
          (none p.equations.value number (omega arith));
      seen = subst (λ (l : List KeptCall). HaveSeenAtMost 0 l) kept tt;
    })

-- no passes are new
pub new_none : (basis : BasisValue) (room : ℕ) → AreNewPasses basis 0 room []
new_none basis room = record { count = refl; each = λ number other below. absurd (omega arith) }

-- new passes, and one more behind them
pub new_more : (basis : BasisValue) (passes room : ℕ) (list : List PassValue) (pass : PassValue)
    → AreNewPasses basis passes room list → IsNewPass basis passes room pass
    → AreNewPasses basis (passes + 1) room (list ++ pass ∷ [])
new_more basis passes room list pass are is = record {
  count = let count = are.count in length-append list (pass ∷ []) ∙ omega arith;
  each = λ number other below.
      let count = are.count in
      let cases : (number < passes) ⊎ (passes ≡ number) = grind arith in
      ⊎_elim (λ before. let within : number < length list = omega arith in
      subst (IsNewPass basis number room) (sym (get_or_append_left list (pass ∷ []) other number within))
      (are.each number other before))
      (λ same. subst (λ (n : ℕ). IsNewPass basis n room (get_or (list ++ pass ∷ []) n other)) same
      (subst (IsNewPass basis passes room) (sym (get_or_push list pass other passes count)) is)) cases;
}

-- one number more was given
pub joined_more : (n : ℕ) → ◌≡◌ {A = List (Option (List (ℕ × ℕ)))} (replicate n None ++ None ∷ []) (replicate (n + 1) None)
joined_more n = replicate-append-replicate n 1 None
