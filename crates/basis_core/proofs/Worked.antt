-- The definitions at a small example: three callers, with draws before and after the first record.
use Rattle.std.proofs.Common.{◌≡◌, refl, List, [], ◌∷◌}
use Rattle.linear_spec.specs.declared.packet.Packet.{Packet}
use Rattle.linear_spec.specs.declared.record.Drawn.TheVariants.{Sent, Nothing}
use Rattle.linear_spec.specs.declared.reply.Reply.TheVariants.{Innovative, NotInnovative, Conflicting}
use Rattle.basis_core.specs.Calls.{KeptOffer, KeptDraw}
use Rattle.basis_core.specs.Run.{CallBy, records_after}
use Rattle.basis_core.specs.Merge.{merge_of, made_by, own_offers}

abbrev p : Packet
p = record { generation = 0; coeffs = 1 ∷ 1 ∷ []; payload = 610 ∷ [] }

abbrev q : Packet
q = record { generation = 0; coeffs = 0 ∷ 1 ∷ []; payload = 5 ∷ [] }

abbrev all : List CallBy
all =
    made_by 0 (KeptDraw 1 Nothing) ∷ made_by 0 (KeptOffer 2 p (Innovative 0)) ∷ made_by 0 (KeptDraw 3 (Sent 2)) ∷
    made_by 1 (KeptOffer 4 p (NotInnovative 1)) ∷ made_by 1 (KeptOffer 5 q (Innovative 1)) ∷
    made_by 2 (KeptDraw 6 Nothing) ∷ made_by 2 (KeptOffer 7 q (Conflicting 2)) ∷ []

merged : merge_of all ≡
    made_by 0 (KeptDraw 1 Nothing) ∷ made_by 2 (KeptDraw 6 Nothing) ∷ made_by 0 (KeptOffer 2 p (Innovative 0)) ∷
    made_by 1 (KeptOffer 4 p (NotInnovative 1)) ∷ made_by 1 (KeptOffer 5 q (Innovative 1)) ∷
    made_by 0 (KeptDraw 3 (Sent 2)) ∷ made_by 2 (KeptOffer 7 q (Conflicting 2)) ∷ []
merged = refl

recs : records_after (merge_of all) [] ≡ record { caller = 0; call = 1; packet = p } ∷ record { caller = 1; call = 1; packet = q } ∷ []
recs = refl

own : own_offers 1 (record { caller = 0; call = 1; packet = p } ∷ record { caller = 1; call = 1; packet = q } ∷ []) 0 ≡ KeptOffer 0 q (Innovative 1) ∷ []
own = refl
