use Rattle.std.proofs.Common.{◌≡◌, ◌<◌, ℕ, List, subst, arith, inl, inr}
use Rattle.std.proofs.lemmas.Bool.{cases_lt}
use Rattle.linear_spec.specs.Packet.{coefficients_of}
use Rattle.linear_spec.specs.Span.{HasRank}
use Rattle.packet_wire.specs.Stream.{Contents}
use Rattle.avalanche_cli.specs.Files.{IsFirstIncomplete}
use Rattle.avalanche_cli.specs.Packets.{HasPacketRank, passing_of}
use Rattle.avalanche_cli.proofs.laws.incomplete.Goals as goal

abbrev OneLaw : Type 0
OneLaw = (n : ℕ) (vectors : List (List ℕ)) (r q : ℕ) → HasRank n vectors r → HasRank n vectors q → r ≡ q

one_rank : OneLaw → (contents : Contents) (generation rank its : ℕ) → HasPacketRank contents generation rank → HasPacketRank contents generation its → rank ≡ its
one_rank law contents generation rank its is also = law contents.manifest.shape.k (coefficients_of (passing_of contents generation)) rank its is also

not_before : OneLaw → (contents : Contents) (generation rank other its : ℕ) → IsFirstIncomplete contents generation rank → IsFirstIncomplete contents other its → other < generation → ⊥
not_before law contents generation rank other its is also before =
    let same = one_rank law contents other its contents.manifest.shape.k also.rank_is (is.full_before other before) in
    absurd (omega (arith, also.low))

pub returns-clause-one : goal.returns-clause-one
returns-clause-one c = λ contents generation rank other its is also.
    let law = c.ranks.ensures.one in
    let first : other ≡ generation = elim (cases_lt other generation) [
      | inl before ↦ absurd (not_before law contents generation rank other its is also before)
      | inr after ↦ elim (cases_lt generation other) [
        | inl before ↦ absurd (not_before law contents other its generation rank also is before)
        | inr here ↦ omega arith
      ]
    ] in
    (first, one_rank law contents generation its rank (subst (λ (g : ℕ). HasPacketRank contents g its) first also.rank_is) is.rank_is)

pub returns-clause-not_full : goal.returns-clause-not_full
returns-clause-not_full c = λ contents generation rank is full.
    let same = one_rank c.ranks.ensures.one contents generation rank contents.manifest.shape.k is.rank_is (full generation is.below) in
    absurd (omega (arith, is.low))
