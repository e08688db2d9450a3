use Rattle.std.proofs.Common.{◌≡◌, List, [], ◌∷◌, ◌++◌, length, sym, ap, ◌∙◌, subst, arith, length-append}
use Rattle.basis_core.specs.declared.trace.CallerTrace.{CallerTrace}
use Rattle.shared_basis.specs.Gathering.{HasGathered}
use Rattle.shared_basis.proofs.GatherLemmas.{at_its_place, last_has_founder, none_gathered, one_gathered, popped, is_of_left}
use Rattle.shared_basis.proofs.gathering.gather.Goals as goal

pub unwrap-requires : goal.unwrap-requires
unwrap-requires c =
    c.pop.ensures.variant.1 (omega (arith, c.requires.passes.count, c.is_basis.ensures.some_passes))

pub unwrap-founder-requires : goal.unwrap-founder-requires
unwrap-founder-requires c =
    last_has_founder _ _ _ _ _ c.requires.passes (popped _ _ _ _ c.pop.ensures.items c.unwrap.ensures) c.take_apart-last.ensures

pub join_caller-requires-clause-founder : goal.join_caller-requires-clause-founder
join_caller-requires-clause-founder c =
    let split = popped _ _ _ _ c.pop.ensures.items c.unwrap.ensures in
    let none = none_gathered _ _ _ _ _ c.unwrap-founder.result c.requires.passes split c.take_apart-last.ensures c.unwrap-founder.ensures in
    record {
      table = none.table ∙ sym (ap (λ b. b.table) c.basis.view_is);
      parameters = none.parameters ∙ sym (ap (λ b. b.parameters) c.basis.view_is);
    }

pub join_caller-requires-clause-seat : goal.join_caller-requires-clause-seat
join_caller-requires-clause-seat c =
    let split = popped _ _ _ _ c.pop.ensures.items c.unwrap.ensures in
    let at = at_its_place _ _ _ [] _ c.requires.passes split in
    record {
      table = c.take_apart-last.ensures.table ∙ (at.0.table ∙ sym (ap (λ b. b.table) c.basis.view_is));
      parameters = c.take_apart-last.ensures.parameters ∙ (at.0.parameters ∙ sym (ap (λ b. b.parameters) c.basis.view_is));
    }

pub loop-basis-init : goal.loop-basis-init
loop-basis-init c =
    let split = popped _ _ _ _ c.pop.ensures.items c.unwrap.ensures in
    let none = none_gathered _ _ _ _ _ c.unwrap-founder.result c.requires.passes split c.take_apart-last.ensures c.unwrap-founder.ensures in
    let seat = c.join_caller.ensures.founder in
    let put : c.put.new.self.items ≡ [] ++ c.take_apart-last.result.caller ∷ [] =
    c.put.ensures.items ∙ ap (λ (l : List CallerTrace). l ++ c.take_apart-last.result.caller ∷ []) c.requires.room.0 in
    let long = ap length split ∙ length-append c.pop.new.self.items (c.unwrap.result ∷ []) in
    record {
      gathered = subst (λ (l : List CallerTrace). HasGathered c.args.basis.now c.args.passes.items c.join_caller.new.founder c.pop.new.self.items l) (sym put)
          (one_gathered _ _ _ _ _ _ _ _ [] c.requires.passes none split c.take_apart-last.ensures
          (seat.table ∙ ap (λ b. b.table) c.basis.view_is) (seat.parameters ∙ ap (λ b. b.parameters) c.basis.view_is) c.join_caller.ensures.joined);
      room = omega (arith, c.requires.room.1, c.put.ensures.spare, long);
    }

pub join_caller-requires-in-loop-basis-clause-seat : goal.join_caller-requires-in-loop-basis-clause-seat
join_caller-requires-in-loop-basis-clause-seat c =
    let split = popped _ _ _ _ c.pop-in-loop-basis.ensures.items c.unwrap-in-loop-basis.ensures in
    let of = is_of_left _ _ _ _ _ _ _ c.requires.passes c.loop-basis.invariant.gathered split in
    record {
      table = c.take_apart-parts.ensures.table ∙ (of.table ∙ sym (ap (λ b. b.table) c.basis.view_is));
      parameters = c.take_apart-parts.ensures.parameters ∙ (of.parameters ∙ sym (ap (λ b. b.parameters) c.basis.view_is));
    }

pub loop-basis-preserved-in-loop-basis : goal.loop-basis-preserved-in-loop-basis
loop-basis-preserved-in-loop-basis c =
    let split = popped _ _ _ _ c.pop-in-loop-basis.ensures.items c.unwrap-in-loop-basis.ensures in
    let seat = c.join_caller-in-loop-basis.ensures.founder in
    let long = ap length split ∙ length-append c.pop-in-loop-basis.new.self.items (c.unwrap-in-loop-basis.result ∷ []) in
    record {
      gathered = subst (λ (l : List CallerTrace). HasGathered c.args.basis.now c.args.passes.items c.join_caller-in-loop-basis.new.founder c.pop-in-loop-basis.new.self.items l)
          (sym c.put-in-loop-basis.ensures.items)
          (one_gathered _ _ _ _ _ _ _ _ _ c.requires.passes c.loop-basis.invariant.gathered split c.take_apart-parts.ensures
          (seat.table ∙ ap (λ b. b.table) c.basis.view_is) (seat.parameters ∙ ap (λ b. b.parameters) c.basis.view_is) c.join_caller-in-loop-basis.ensures.joined);
      room = omega (arith, c.loop-basis.invariant.room, c.put-in-loop-basis.ensures.spare, long);
    }

pub loop-basis-preserved : goal.loop-basis-preserved
loop-basis-preserved c =
    let split = popped _ _ _ _ c.pop-in-loop-basis.ensures.items c.unwrap-in-loop-basis.ensures in
    let seat = c.join_caller-in-loop-basis.ensures.founder in
    let long = ap length split ∙ length-append c.pop-in-loop-basis.new.self.items (c.unwrap-in-loop-basis.result ∷ []) in
    record {
      gathered = subst (λ (l : List CallerTrace). HasGathered c.args.basis.now c.args.passes.items c.join_caller-in-loop-basis.new.founder c.pop-in-loop-basis.new.self.items l)
          (sym c.put-in-loop-basis.ensures.items)
          (one_gathered _ _ _ _ _ _ _ _ _ c.requires.passes c.loop-basis.invariant.gathered split c.take_apart-parts.ensures
          (seat.table ∙ ap (λ b. b.table) c.basis.view_is) (seat.parameters ∙ ap (λ b. b.parameters) c.basis.view_is) c.join_caller-in-loop-basis.ensures.joined);
      room = omega (arith, c.loop-basis.invariant.room, c.put-in-loop-basis.ensures.spare, long);
    }
