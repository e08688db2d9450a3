-- What packets add to the calls of a worker's passes: one packet after another.
use Rattle.std.proofs.Common.{◌≡◌, ℕ, ◌+◌, ◌<◌, ◌≤◌, List, [], ◌∷◌, ◌++◌, length, suc, take, drop, get_or, set, refl, sym, ap, ◌∙◌, subst, arith, inl, inr}
use Rattle.std.specs.Prelude.{◌==◌, Bool}
use Rattle.std.specs.List.{refill}
use Rattle.std.proofs.Math.ListN.{length-set}
use Rattle.std.proofs.Math.Seq.{drop-length, take-append_seam}
use Rattle.std.proofs.lemmas.List.{append-nil, append_assoc, length-append, get_or-set_same, get_or-set_other}
use Rattle.std.proofs.lemmas.List.Elements.{filter-append}
use Rattle.std.proofs.lemmas.List.Sums.{count_by-le-length, length-filter}
use Rattle.std.proofs.lemmas.Bool.{cases_eq, eq-eqb, ne_eqb}
use Rattle.linear_spec.specs.declared.reply.Reply.{Reply}
use Rattle.linear_spec.specs.declared.record.Record.{Record}
use Rattle.basis_core.specs.Calls.{KeptCall, KeptOffer, KeptDraw}
use Rattle.shared_basis.specs.Bases.{BasisValue, PassValue}
use Rattle.shared_basis.specs.Passes.{HasCalled, SeesOn}
use Rattle.receive_pass.specs.declared.worker.TaggedPacket.{TaggedPacket}
use Rattle.receive_pass.specs.Workers.{AreOffersOf, HasOffered, HaveOffered, HavePasses, of_generation}

-- a list that is written back whole is the one that was written
pub refilled : (before after : List PassValue) → length after ≡ length before → refill (length before) before after ≡ after
refilled before after same =
    let none : drop (length after) before ≡ [] = ap (λ (n : ℕ). drop n before) same ∙ drop-length before in
    ap (λ (l : List PassValue). take (length before) (after ++ l)) none
    ∙ ap (take (length before)) (append-nil after)
    ∙ ap (λ (n : ℕ). take n after) (sym same)
    ∙ ap (take (length after)) (sym (append-nil after))
    ∙ take-append_seam after []

-- a pass sees on from one call to the next
sees_on : (x y z : PassValue) → SeesOn x y → SeesOn y z → SeesOn x z
sees_on x y z first second = record {
  table = second.table ∙ first.table;
  parameters = second.parameters ∙ first.parameters;
  number = second.number ∙ first.number;
  prefix = (
    first.prefix.0 ++ second.prefix.0,
    second.prefix.1 ∙ ap (λ (l : List Record). l ++ second.prefix.0) first.prefix.1 ∙ append_assoc x.seen first.prefix.0 second.prefix.0,
  );
}

-- no packet adds no call
pub offered_none : (pass : PassValue) → HasOffered [] pass pass
offered_none pass = record {
  sees = record { table = refl; parameters = refl; number = refl; prefix = ([], sym (append-nil pass.seen)) };
  more = [];
  calls = sym (append-nil pass.calls);
  offers = tt;
  spare = omega arith;
}

-- a packet adds its offer
pub offered_one : (tagged : TaggedPacket) (reply : Reply) (before after : PassValue) → SeesOn before after → HasCalled before after (KeptOffer tagged.tag tagged.packet reply)
    → HasOffered (tagged ∷ []) before after
offered_one tagged reply before after sees called = record {
  sees = sees;
  more = KeptOffer tagged.tag tagged.packet reply ∷ [];
  calls = called.calls;
  offers = (refl, refl, tt);
  spare = called.spare;
}

offers_append : (inbox others : List TaggedPacket) (calls more : List KeptCall) → AreOffersOf inbox calls → AreOffersOf others more
    → AreOffersOf (inbox ++ others) (calls ++ more)
offers_append [] others [] more are too = too
offers_append [] others (call ∷ calls) more are too = absurd are
offers_append (tagged ∷ inbox) others [] more are too = absurd are
offers_append (tagged ∷ inbox) others (KeptDraw tag drawn ∷ calls) more are too = absurd are
offers_append (tagged ∷ inbox) others (KeptOffer tag packet reply ∷ calls) more are too =
    (are.0, are.1, offers_append inbox others calls more are.2 too)

-- some packets and then others add the offers of all
offered_then : (inbox others : List TaggedPacket) (x y z : PassValue) → HasOffered inbox x y → HasOffered others y z → HasOffered (inbox ++ others) x z
offered_then inbox others x y z first second = record {
  sees = sees_on x y z first.sees second.sees;
  more = first.more ++ second.more;
  calls = second.calls ∙ ap (λ (l : List KeptCall). l ++ second.more) first.calls ∙ append_assoc x.calls first.more second.more;
  offers = offers_append inbox others first.more second.more first.offers second.offers;
  spare =
      let a = first.spare in
      let b = second.spare in
      omega (arith, length-append first.more second.more);
}

-- the same of the passes of all generations
pub have_then : (inbox others : List TaggedPacket) (x y z : List PassValue) → HaveOffered inbox x y → HaveOffered others y z → HaveOffered (inbox ++ others) x z
have_then inbox others x y z first second = record {
  count = second.count ∙ first.count;
  each = λ at other low.
      subst (λ (l : List TaggedPacket). HasOffered l (get_or x at other) (get_or z at other))
      (sym (filter-append (λ (tagged : TaggedPacket). tagged.packet.generation == at) inbox others))
      (offered_then (of_generation at inbox) (of_generation at others) (get_or x at other) (get_or y at other) (get_or z at other)
      (first.each at other low) (second.each at other (subst (λ (n : ℕ). at < n) (sym first.count) low)));
}

pub have_none : (passes : List PassValue) → HaveOffered [] passes passes
have_none passes = record { count = refl; each = λ at other low. offered_none (get_or passes at other) }

-- one packet, by the pass of its generation
pub have_one : (tagged : TaggedPacket) (passes : List PassValue) (at : ℕ) (after : PassValue) → at ≡ tagged.packet.generation → at < length passes
    → ((other : PassValue) → HasOffered (tagged ∷ []) (get_or passes at other) after) → HaveOffered (tagged ∷ []) passes (set passes at after)
have_one tagged passes at after same low gained = record {
  count = length-set passes at after;
  each = λ n other in_range. elim (cases_eq n at) as (λ _. HasOffered (of_generation n (tagged ∷ [])) (get_or passes n other) (get_or (set passes at after) n other)) [
    | inl here ↦ rw (here, eq-eqb tagged.packet.generation at (sym same), get_or-set_same passes at after other low) (gained other)
    | inr else ↦ rw (
      ne_eqb tagged.packet.generation n (λ (e : tagged.packet.generation ≡ n). else (sym e ∙ sym same)),
      get_or-set_other passes at n after other else,
    ) (offered_none (get_or passes n other))
  ];
}

offers_count : (inbox : List TaggedPacket) (calls : List KeptCall) → AreOffersOf inbox calls → length calls ≡ length inbox
offers_count [] [] are = refl
offers_count [] (call ∷ calls) are = absurd are
offers_count (tagged ∷ inbox) [] are = absurd are
offers_count (tagged ∷ inbox) (KeptDraw tag drawn ∷ calls) are = absurd are
offers_count (tagged ∷ inbox) (KeptOffer tag packet reply ∷ calls) are = ap suc (offers_count inbox calls are.2)

-- what each pass has left after some packets is enough for others, and it is still of its basis
pub passes_left : (bases : List BasisValue) (total room : ℕ) (inbox : List TaggedPacket) (x y : List PassValue) → length inbox + room ≤ total
    → HavePasses bases total x → HaveOffered inbox x y → HavePasses bases room y
passes_left bases total room inbox x y within have offered = record {
  count = offered.count ∙ have.count;
  each = λ at pass basis low.
      let is_of = have.each at pass basis low in
      let sees = (offered.each at pass (subst (λ (n : ℕ). at < n) (sym have.count) low)).sees in
      record { table = sees.table ∙ is_of.table; parameters = sees.parameters ∙ is_of.parameters };
  room_is = λ at pass low.
      let enough = have.room_is at pass low in
      let gained = offered.each at pass (subst (λ (n : ℕ). at < n) (sym have.count) low) in
      let spare = gained.spare in
      let count = offers_count (of_generation at inbox) gained.more gained.offers in
      let test : TaggedPacket → Bool = λ tagged. tagged.packet.generation == at in
      let passing = length-filter test inbox in
      let fewer = count_by-le-length test inbox in
      omega arith;
}
