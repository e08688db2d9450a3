-- The law of legal histories, part by part, where each caller is seen by itself.
use Rattle.std.proofs.Common.{◌≡◌, ◌≢◌, ⊎_elim, ℕ, zero, suc, ◌+◌, ◌<◌, ◌^◌, true, false, cond, List, [], ◌∷◌, ◌++◌, map, length, take, get_or, Some, None, refl, sym, ap, ◌∙◌, subst, arith}
use Rattle.std.specs.List.{AllByRecursion}
use Rattle.std.specs.Option.{option_to_list}
use Rattle.std.proofs.lemmas.Bool.{cases_eq, ne_eqb, eq-eqb}
use Rattle.std.proofs.lemmas.List.{append-nil, append_assoc, map-append, map_push, length-append, length_push, length-map, take-append-le}
use Rattle.std.proofs.Math.Seq.{take-append_seam}
use Rattle.linear_spec.specs.declared.equations.Equations.{Equations}
use Rattle.linear_spec.specs.declared.packet.Packet.{Packet}
use Rattle.linear_spec.specs.declared.record.Record.{Record}
use Rattle.linear_spec.specs.declared.reply.Reply.TheVariants.{Innovative}
use Rattle.linear_spec.specs.Passing.{Passes}
use Rattle.linear_spec.specs.Cases.{IsFresh}
use Rattle.linear_spec.specs.SequentialBasis.{packets_of}
use Rattle.basis_core.specs.Calls.{KeptCall, KeptOffer, point_of, recorded_by, AreInOrder, IsAnsweredAt}
use Rattle.basis_core.specs.Run.{AreInnovativeFrom, AreInnovative}
use Rattle.basis_core.specs.Merge.{Given, caller_numbers, given_by, only}
use Rattle.basis_core.specs.Legal.{Gains, IsAnsweredOver, IsNext, is_of}
use Rattle.basis_core.proofs.Lists.{each-weaker, each-append}
use Rattle.basis_core.proofs.Runs.{IsRight, own_places, made_places}
use Rattle.basis_core.proofs.Local.{IsFitting, AreSound, IsLocal}

pub number_is_below : (number : ℕ) → number < 2 ^ 32 → number < caller_numbers
unfolding caller_numbers
number_is_below number below = below

some_is : {X : Type 0} (x y : X) → Some x ≡ Some y → x ≡ y
some_is x y e = cc

none_is_not : {X : Type 0} (x : X) → None ≡ Some x → ⊥
none_is_not x e = cc

right_more : (equations : Equations) (packets more : List Packet) (c : KeptCall) → IsRight equations packets c → IsRight equations (packets ++ more) c
right_more equations packets more c right =
    let within = right.within in
    let long = length-append packets more in
    record {
      within = omega arith;
      answered = subst (λ f. IsAnsweredAt equations f c) (sym (take-append-le (point_of c) packets more within)) right.answered;
    }

abbrev claimed_place : ℕ → KeptCall → ℕ → List (ℕ × Record)
claimed_place number c i = map (λ packet. let x : ℕ × Record = (point_of c, record { caller = number; call = i; packet = packet }) in x) (option_to_list (recorded_by c))

made_push : (number : ℕ) (calls : List KeptCall) (c : KeptCall) (i : ℕ)
    → made_places number (calls ++ c ∷ []) i ≡ made_places number calls i ++ claimed_place number c (i + length calls)
made_push number [] c i = let none : i + 0 ≡ i = omega arith in append-nil (claimed_place number c i) ∙ ap (claimed_place number c) (sym none)
made_push number (d ∷ calls) c i =
    let next : i + 1 + length calls ≡ i + suc (length calls) = omega arith in
    ap (λ l. claimed_place number d i ++ l) (made_push number calls c (i + 1) ∙ ap (λ n. made_places number calls (i + 1) ++ claimed_place number c n) next)
    ∙ sym (append_assoc (claimed_place number d i) (made_places number calls (i + 1)) (claimed_place number c (i + suc (length calls))))

own_push : (number : ℕ) (records : List Record) (r : Record) (at : ℕ)
    → own_places number (records ++ r ∷ []) at ≡ own_places number records at ++ cond (is_of number r) ((at + length records, r) ∷ []) []
own_push number [] r at = let none : at + 0 ≡ at = omega arith in ap (λ n. cond (is_of number r) ((n, r) ∷ []) []) (sym none)
own_push number (x ∷ records) r at =
    let next : at + 1 + length records ≡ at + suc (length records) = omega arith in
    let rest = own_push number records r (at + 1) ∙ ap (λ n. own_places number records (at + 1) ++ cond (is_of number r) ((n, r) ∷ []) []) next in
    elim (is_of number x) as
    (λ b. cond b ((at, x) ∷ own_places number (records ++ r ∷ []) (at + 1)) (own_places number (records ++ r ∷ []) (at + 1))
    ≡ cond b ((at, x) ∷ own_places number records (at + 1)) (own_places number records (at + 1)) ++ cond (is_of number r) ((at + suc (length records), r) ∷ []) []) [
      | true ↦ ap (λ l. (at, x) ∷ l) rest
      | false ↦ rest
    ]

innovative_push : (equations : Equations) (packets : List Packet) (packet : Packet) (front : List Packet) → AreInnovativeFrom equations packets front
    → Passes equations packet → IsFresh equations.k (front ++ packets) packet → AreInnovativeFrom equations (packets ++ packet ∷ []) front
innovative_push equations [] packet front all passes fresh = ((passes, subst (λ f. IsFresh equations.k f packet) (append-nil front) fresh), tt)
innovative_push equations (p ∷ packets) packet front all passes fresh = (
  all.0,
  innovative_push equations packets packet (front ++ p ∷ []) all.1 passes
      (subst (λ f. IsFresh equations.k f packet) (sym (append_assoc front (p ∷ []) packets)) fresh),
)

pub innovative_at : (equations : Equations) (packets front : List Packet) → AreInnovativeFrom equations packets front → (at : ℕ) (d : Packet) → at < length packets
    → IsFresh equations.k (front ++ take at packets) (get_or packets at d)
innovative_at equations [] front all at d below = absurd (omega arith)
innovative_at equations (p ∷ packets) front all zero d below = subst (λ f. IsFresh equations.k f p) (sym (append-nil front)) all.0.1
innovative_at equations (p ∷ packets) front all (suc at) d below =
    subst (λ f. IsFresh equations.k f (get_or packets at d)) (append_assoc front (p ∷ []) (take at packets))
    (innovative_at equations packets (front ++ p ∷ []) all.1 at d (omega arith))

-- after a gain a given caller is the one that gained, or was given before with the same calls
by_gain : (before after : Given) (number : ℕ) (calls : List KeptCall) (call : KeptCall) → Gains before after number calls call
    → (Q : ℕ → List KeptCall → Type 0) → Q number (calls ++ call ∷ []) → ((n : ℕ) (cs : List KeptCall) → n ≢ number → before n ≡ Some cs → Q n cs)
    → (n : ℕ) (cs : List KeptCall) → after n ≡ Some cs → Q n cs
by_gain before after number calls call gains Q mine theirs n cs e =
    ⊎_elim
    (λ (same : n ≡ number).
    let more : calls ++ call ∷ [] ≡ cs = some_is (calls ++ call ∷ []) cs (sym gains.now ∙ ap after (sym same) ∙ e) in
    subst (λ m. Q m cs) (sym same) (subst (Q number) more mine))
    (λ ne. theirs n cs ne (sym (gains.others n ne) ∙ e)) (cases_eq n number)

module _ (equations : Equations) (records : List Record) where
  -- a call that recorded nothing
  pub quiet_gain : (before after : Given) (number : ℕ) (calls : List KeptCall) (call : KeptCall) → IsLocal equations before records → Gains before after number calls call
      → recorded_by call ≡ None → AreInOrder (calls ++ call ∷ []) → IsAnsweredOver equations records call → IsLocal equations after records
  quiet_gain before after number calls call local gains quiet order over =
      let fit = local.fits number calls gains.had in
      let long = length-map records (λ r. r.packet) in
      let reach = over.within in
      let none : claimed_place number call (0 + length calls) ≡ [] =
      ap (λ o. map (λ packet. let x : ℕ × Record = (point_of call, record { caller = number; call = 0 + length calls; packet = packet }) in x) (option_to_list o)) quiet in
      let right : IsRight equations (packets_of records) call = record { within = omega arith; answered = over.answered } in
      record {
        sound = local.sound;
        fits = by_gain before after number calls call gains (IsFitting equations records) (record {
          number_below = fit.number_below;
          in_order = order;
          right = each-append (IsRight equations (packets_of records)) calls (call ∷ []) fit.right (right, tt);
          places = made_push number calls call 0 ∙ ap (λ l. made_places number calls 0 ++ l) none ∙ append-nil (made_places number calls 0) ∙ fit.places;
        }) (λ n cs ne e. local.fits n cs e);
      }

  module _ (r : Record) (next : IsNext equations records r) where
    sound_more : AreSound equations records → AreSound equations (records ++ r ∷ [])
    sound_more sound = record {
      innovative = subst (AreInnovative equations) (sym (map_push (λ r. r.packet) records r))
          (innovative_push equations (packets_of records) r.packet [] sound.innovative next.passes next.fresh);
      callers = each-append (λ r. r.caller < caller_numbers) records (r ∷ []) sound.callers (number_is_below r.caller next.number, tt);
    }

    right_still : (calls : List KeptCall) → AllByRecursion (IsRight equations (packets_of records)) calls
        → AllByRecursion (IsRight equations (packets_of (records ++ r ∷ []))) calls
    right_still calls right =
        subst (λ ps. AllByRecursion (IsRight equations ps) calls) (sym (map_push (λ r. r.packet) records r))
        (each-weaker (IsRight equations (packets_of records)) (IsRight equations (packets_of records ++ r.packet ∷ []))
        (right_more equations (packets_of records) (r.packet ∷ [])) calls right)

    -- a record of another caller
    still_fits : (number : ℕ) (calls : List KeptCall) → number ≢ r.caller → IsFitting equations records number calls → IsFitting equations (records ++ r ∷ []) number calls
    still_fits number calls ne fit =
        let other : is_of number r ≡ false = ne_eqb r.caller number (λ e. ne (sym e)) in
        record {
          number_below = fit.number_below;
          in_order = fit.in_order;
          right = right_still calls fit.right;
          places = fit.places ∙ sym (append-nil (own_places number records 0))
              ∙ sym (ap (λ b. own_places number records 0 ++ cond b ((0 + length records, r) ∷ []) []) other) ∙ sym (own_push number records r 0);
        }

    pub unknown_gain : (given : Given) → IsLocal equations given records → given r.caller ≡ None → IsLocal equations given (records ++ r ∷ [])
    unknown_gain given local unknown = record {
      sound = sound_more local.sound;
      fits = λ number calls e. still_fits number calls (λ same. none_is_not calls (sym unknown ∙ ap given (sym same) ∙ e)) (local.fits number calls e);
    }

    pub own_gain : (before after : Given) (tag : ℕ) (calls : List KeptCall) → IsLocal equations before records
        → Gains before after r.caller calls (KeptOffer tag r.packet (Innovative (length records))) → length calls ≡ r.call
        → AreInOrder (calls ++ KeptOffer tag r.packet (Innovative (length records)) ∷ []) → IsLocal equations after (records ++ r ∷ [])
    own_gain before after tag calls local gains count order =
        let call : KeptCall = KeptOffer tag r.packet (Innovative (length records)) in
        let fit = local.fits r.caller calls gains.had in
        let packets = packets_of records in
        let long = length-map records (λ r. r.packet) in
        let more = length_push packets r.packet in
        let front : take (length records) (packets ++ r.packet ∷ []) ≡ packets =
        ap (λ n. take n (packets ++ r.packet ∷ [])) (sym long) ∙ take-append_seam packets (r.packet ∷ []) in
        let answered : IsAnsweredAt equations packets call = (next.passes, (next.fresh, sym long)) in
        let right : IsRight equations (packets ++ r.packet ∷ []) call =
        record { within = omega arith; answered = subst (λ f. IsAnsweredAt equations f call) (sym front) answered } in
        let mine : is_of r.caller r ≡ true = eq-eqb r.caller r.caller refl in
        let number : 0 + length calls ≡ r.call = (omega arith) ∙ count in
        let place : length records ≡ 0 + length records = omega arith in
        record {
          sound = sound_more local.sound;
          fits = by_gain before after r.caller calls call gains (IsFitting equations (records ++ r ∷ [])) (record {
            number_below = fit.number_below;
            in_order = order;
            right = each-append (IsRight equations (packets_of (records ++ r ∷ []))) calls (call ∷ []) (right_still calls fit.right)
                (subst (λ ps. IsRight equations ps call) (sym (map_push (λ r. r.packet) records r)) right, tt);
            places = made_push r.caller calls call 0
                ∙ ap (λ n. made_places r.caller calls 0 ++ (length records, record { caller = r.caller; call = n; packet = r.packet }) ∷ []) number
                ∙ ap (λ l. l ++ (length records, r) ∷ []) fit.places
                ∙ ap (λ n. own_places r.caller records 0 ++ (n, r) ∷ []) place
                ∙ sym (ap (λ b. own_places r.caller records 0 ++ cond b ((0 + length records, r) ∷ []) []) mine) ∙ sym (own_push r.caller records r 0);
          }) (λ n cs ne e. still_fits n cs ne (local.fits n cs e));
        }

  -- callers together
  pub together : (given : Given) (number : ℕ) (calls : List KeptCall) → given number ≡ Some calls
      → ((n : ℕ) (cs : List KeptCall) → given n ≡ Some cs → IsLocal equations (only n cs) records) → IsLocal equations given records
  together given number calls some alone = record {
    sound = (alone number calls some).sound;
    fits = λ n cs e. (alone n cs e).fits n cs (ap (λ b. cond b (Some cs) None) (eq-eqb n n refl));
  }

  -- and each by itself
  pub apart : (given : Given) (number : ℕ) (calls : List KeptCall) → given number ≡ Some calls → IsLocal equations given records → IsLocal equations (only number calls) records
  apart given number calls some local = record {
    sound = local.sound;
    fits = λ n cs e. ⊎_elim
        (λ (same : number ≡ n).
        let both : Some calls ≡ Some cs = sym (ap (λ b. cond b (Some calls) None) (eq-eqb number n same)) ∙ e in
        subst (λ m. IsFitting equations records m cs) same (subst (IsFitting equations records number) (some_is calls cs both) (local.fits number calls some)))
        (λ ne. absurd (none_is_not cs (sym (ap (λ b. cond b (Some calls) None) (ne_eqb number n ne)) ∙ e)))
        (cases_eq number n);
  }

  pub nobody : AreInnovative equations (packets_of records) → AllByRecursion (λ r. r.caller < caller_numbers) records → IsLocal equations (given_by []) records
  nobody innovative callers = record {
    sound = record { innovative = innovative; callers = callers };
    fits = λ number calls e. absurd (none_is_not calls e);
  }

pub nothing_yet : (equations : Equations) (number : ℕ) → number < 2 ^ 32 → IsLocal equations (only number []) []
nothing_yet equations number below = record {
  sound = record { innovative = tt; callers = tt };
  fits = λ n cs e. ⊎_elim
      (λ (same : number ≡ n).
      let both : Some [] ≡ Some cs = sym (ap (λ b. cond b (Some []) None) (eq-eqb number n same)) ∙ e in
      let none : [] ≡ cs = some_is [] cs both in
      subst (IsFitting equations [] n) none (record {
        number_below = subst (λ m. m < caller_numbers) same (number_is_below number below);
        in_order = tt;
        right = tt;
        places = refl;
      }))
      (λ ne. absurd (none_is_not cs (sym (ap (λ b. cond b (Some []) None) (ne_eqb number n ne)) ∙ e)))
      (cases_eq number n);
}

innovative_next : (equations : Equations) (packets : List Packet) (packet : Packet) (rest front : List Packet) → AreInnovativeFrom equations (packets ++ packet ∷ rest) front
    → Passes equations packet × IsFresh equations.k (front ++ packets) packet
innovative_next equations [] packet rest front all = (all.0.0, subst (λ f. IsFresh equations.k f packet) (sym (append-nil front)) all.0.1)
innovative_next equations (p ∷ packets) packet rest front all =
    let later = innovative_next equations packets packet rest (front ++ p ∷ []) all.1 in
    (later.0, subst (λ f. IsFresh equations.k f packet) (append_assoc front (p ∷ []) packets) later.1)

-- records of callers that are not given, one after the other
pub unknown_gains : (equations : Equations) (given : Given) (more records : List Record) → IsLocal equations given records
    → AreInnovative equations (packets_of (records ++ more)) → AllByRecursion (λ r. (given r.caller ≡ None) × (r.caller < 2 ^ 32)) more
    → IsLocal equations given (records ++ more)
unknown_gains equations given [] records local innovative unknown = subst (IsLocal equations given) (sym (append-nil records)) local
unknown_gains equations given (r ∷ more) records local innovative unknown =
    let split : packets_of (records ++ r ∷ more) ≡ packets_of records ++ r.packet ∷ packets_of more = map-append (λ r. r.packet) records (r ∷ more) in
    let facts = innovative_next equations (packets_of records) r.packet (packets_of more) [] (subst (AreInnovative equations) split innovative) in
    let next : IsNext equations records r = record { passes = facts.0; fresh = facts.1; number = unknown.0.1 } in
    let joined : (records ++ r ∷ []) ++ more ≡ records ++ r ∷ more = append_assoc records (r ∷ []) more in
    subst (IsLocal equations given) joined
    (unknown_gains equations given more (records ++ r ∷ []) (unknown_gain equations records r next given local unknown.0.0)
    (subst (λ rs. AreInnovative equations (packets_of rs)) (sym joined) innovative) unknown.1)
