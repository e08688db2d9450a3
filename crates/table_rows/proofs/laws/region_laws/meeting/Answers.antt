use Rattle.std.proofs.Common.{◌≡◌, subst}
use Rattle.table_rows.specs.declared.view.Parameters.{Parameters}
use Rattle.table_rows.specs.declared.view.Sight.{Sight}
use Rattle.table_rows.specs.Steps.{IsSight}
use Rattle.table_rows.specs.Views.{width_of}
use Rattle.table_rows.proofs.Longer.{joined_left, joined_right}
use Rattle.table_rows.proofs.laws.region_laws.meeting.Goals as goal

same_parameters : (a b : Sight) → b.parameters ≡ a.parameters → IsSight b → IsSight (record { parameters = a.parameters; front = b.front; olds = b.olds })
same_parameters a b same sight = subst (λ (q : Parameters). IsSight (record { parameters = q; front = b.front; olds = b.olds })) same sight

pub returns : goal.returns
returns c = record {
  first = λ a b same sa sb whole part le. let sb' = same_parameters a b same sb in
      joined_left (width_of a.parameters) a.front b.front (sa.rows, sa.wide) (sb'.rows, sb'.wide) whole part le;
  second = λ a b same sa sb whole part lt. let sb' = same_parameters a b same sb in
      joined_right (width_of a.parameters) a.front b.front (sa.rows, sa.wide) (sb'.rows, sb'.wide) whole part lt;
}
