use Rattle.std.proofs.Common.{◌≡◌, ◌+◌, ◌++◌, ◌≤◌, ℕ, length, drop, map, sym, ap, ◌∙◌, subst}
use Rattle.linear_spec.specs.List.{ListValue}
use Rattle.table_rows.specs.declared.view.Front.{Front}
use Rattle.table_rows.specs.RegionLaws.{RecordLaws}
use Rattle.shared_basis.specs.Bases.{PassValue}
use Rattle.shared_basis.specs.Regions.{record_at, records_seen}
use Rattle.table_rows.specs.Views.{words_read}
use Rattle.shared_basis.proofs.MetPassLemmas.{known_first, known_second, longer_seen, pass_now, sees_from, sees_now, two_together}
use Rattle.shared_basis.proofs.TogetherLemmas.{HistoryLaws}
use Rattle.shared_basis.proofs.basis.SharedBasis.meet.Goals as goal

laws : goal.After-take_over-2 → RecordLaws
laws c = c.records.ensures

histories : goal.After-take_over-2 → HistoryLaws
histories c = record { together = c.histories.ensures.together; other_records = c.histories.ensures.other_records }

-- the lists of regions are those of the fronts
known_a : (c : goal.After-take_over-2) → c.take_over.new.regions.items ≡ c.bring_together.new.a.seat.view.sight.front.known
known_a c =
    let brought = c.bring_together.ensures.a.0 in
    let own : c.bring_together.new.a.known.items ≡ c.a.inside.desk.seat.view.sight.front.known =
    ap (λ (l : ListValue ℕ). l.items) brought.known_kept ∙ c.a.invariant.desk.known in
    let other : c.bring_together.new.b.known.items ≡ c.b.inside.desk.seat.view.sight.front.known =
    ap (λ (l : ListValue ℕ). l.items) c.bring_together.ensures.b.0.known_kept ∙ c.b.invariant.desk.known in
    c.take_over.ensures.items ∙ ((λ i. own i ++ drop (length (own i)) (other i))
    ∙ known_first _ _ _ brought.part.prefix (λ le. ap (λ (f : Front). f.known) (brought.first le)) (λ le. ap (λ (f : Front). f.known) (brought.second le)))

known_b : (c : goal.After-take_over-2) → c.take_over-2.new.regions.items ≡ c.bring_together.new.b.seat.view.sight.front.known
known_b c =
    let brought = c.bring_together.ensures.b.0 in
    let own : c.bring_together.new.b.known.items ≡ c.b.inside.desk.seat.view.sight.front.known =
    ap (λ (l : ListValue ℕ). l.items) brought.known_kept ∙ c.b.invariant.desk.known in
    c.take_over-2.ensures.items ∙ ((λ i. own i ++ drop (length (own i)) c.take_over.new.regions.items)
    ∙ known_second _ _ _ brought.part.prefix (known_a c ∙ ap (λ (f : Front). f.known) (sym c.bring_together.ensures.one_front)))

room_a : (c : goal.After-take_over-2) → length c.take_over.new.regions.items + c.take_over.new.regions.spare
    ≡ length c.a.inside.desk.known.items + c.a.inside.desk.known.spare
room_a c = c.take_over.ensures.room ∙ ap (λ (l : ListValue ℕ). length l.items + l.spare) c.bring_together.ensures.a.0.known_kept

room_b : (c : goal.After-take_over-2) → length c.take_over-2.new.regions.items + c.take_over-2.new.regions.spare
    ≡ length c.b.inside.desk.known.items + c.b.inside.desk.known.spare
room_b c = c.take_over-2.ensures.room ∙ ap (λ (l : ListValue ℕ). length l.items + l.spare) c.bring_together.ensures.b.0.known_kept

pub invariant_of-a : goal.invariant_of-a
invariant_of-a c = pass_now (laws c) (histories c) c.steps.ensures.others _ _ _ c.bring_together.ensures.a.0 c.a.invariant.desk c.a.invariant.parameters
    _ (known_a c) (room_a c) _ _ _ _ _ _ c.a.invariant

pub invariant_of-b : goal.invariant_of-b
invariant_of-b c = pass_now (laws c) (histories c) c.steps.ensures.others _ _ _ c.bring_together.ensures.b.0 c.b.invariant.desk c.b.invariant.parameters
    _ (known_b c) (room_b c) _ _ _ _ _ _ c.b.invariant

pub returns-clause-a : goal.returns-clause-a
returns-clause-a c = sees_from _ _ _ c.a.view_is
    (sees_now (laws c) (histories c) c.steps.ensures.others _ _ _ c.bring_together.ensures.a.0 c.a.invariant.desk c.a.invariant.parameters
    c.take_over.new.regions (known_a c) (room_a c) c.a.inside.number c.a.inside.calls.items (map (λ packet. packet.value) c.a.inside.offered.items) c.a.inside.spare)

pub returns-clause-b : goal.returns-clause-b
returns-clause-b c = sees_from _ _ _ c.b.view_is
    (sees_now (laws c) (histories c) c.steps.ensures.others _ _ _ c.bring_together.ensures.b.0 c.b.invariant.desk c.b.invariant.parameters
    c.take_over-2.new.regions (known_b c) (room_b c) c.b.inside.number c.b.inside.calls.items (map (λ packet. packet.value) c.b.inside.offered.items) c.b.inside.spare)

-- the parameters of all are those of the basis
same_a : (c : goal.After-take_over-2) → c.bring_together.new.a.seat.view.sight.parameters ≡ c.args.self.now.parameters
same_a c = c.bring_together.ensures.a.0.parameters ∙ (ap (λ (q : PassValue). q.parameters) c.a.view_is ∙ c.requires.a.parameters)

same_b : (c : goal.After-take_over-2) → c.b.inside.desk.seat.view.sight.parameters ≡ c.args.self.now.parameters
same_b c = ap (λ (q : PassValue). q.parameters) c.b.view_is ∙ c.requires.b.parameters

pub returns-clause-longer : goal.returns-clause-longer
returns-clause-longer c =
    let brought = c.bring_together.ensures.a.0 in
    let seen_a : records_seen c.a.inside.desk.seat.view ≡ c.args.a.now.seen = ap (λ (q : PassValue). q.seen) c.a.view_is in
    let seen_b : records_seen c.b.inside.desk.seat.view ≡ c.args.b.now.seen = ap (λ (q : PassValue). q.seen) c.b.view_is in
    let count_a : length (records_seen c.a.inside.desk.seat.view) ≡ length c.args.a.now.seen = ap length seen_a in
    let count_b : length (records_seen c.b.inside.desk.seat.view) ≡ length c.args.b.now.seen = ap length seen_b in (
      (λ le. longer_seen _ _ c.bring_together.new.a.seat.view c.a.invariant.desk.sound c.b.invariant.desk.sound brought.parameters brought.first
          (subst (λ n. length (records_seen c.b.inside.desk.seat.view) ≤ n) (sym count_a) (subst (λ n. n ≤ length c.args.a.now.seen) (sym count_b) le)) ∙ seen_a),
      (λ le. longer_seen _ _ c.bring_together.new.a.seat.view c.b.invariant.desk.sound c.a.invariant.desk.sound (same_a c ∙ sym (same_b c)) brought.second
          (subst (λ n. length (records_seen c.a.inside.desk.seat.view) ≤ n) (sym count_b) (subst (λ n. n ≤ length c.args.b.now.seen) (sym count_a) le)) ∙ seen_b),
    )

pub returns-clause-history : goal.returns-clause-history
returns-clause-history c =
    let params : c.bring_together.new.b.seat.view.sight.parameters ≡ c.args.self.now.parameters = c.bring_together.ensures.b.0.parameters ∙ same_b c in
    let one : records_seen c.bring_together.new.b.seat.view ≡ records_seen c.bring_together.new.a.seat.view =
    (λ i. map (record_at ((params ∙ sym (same_a c)) i)) (words_read (c.bring_together.ensures.one_front i))) in
    two_together (histories c) _ _ _ _ _ _ _ (same_a c) params one (invariant_of-a c).legal (invariant_of-b c).legal
