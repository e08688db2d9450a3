use Rattle.std.proofs.Common.{◌≡◌, ◌<◌, ℕ, [], ◌∷◌, List, length, get_or, slice_index_or, set, sym, ap, ◌∙◌, subst}
use Rattle.std.specs.List.{refill}
use Rattle.std.proofs.Math.ListN.{length-set}
use Rattle.std.proofs.lemmas.List.{get_or_default}
use Rattle.shared_basis.specs.Bases.{PassValue}
use Rattle.receive_pass.specs.Workers.{HaveOffered, HasOffered}
use Rattle.receive_pass.proofs.Inboxes.{have_one, offered_one, refilled}
use Rattle.receive_pass.proofs.inbox.receive_one.Goals as goal

pub returns : goal.returns
returns c =
    let passes = c.args.passes.now.items in
    let at = c.from-generation.result in
    let after = c.receive.new.pass in
    let low : at < length passes = subst (λ (n : ℕ). at < n) (sym c.requires.passes.count) (subst (λ (n : ℕ). n < length c.args.bases.now.items) (sym c.from-generation.ensures) c.requires.packet.generation) in
    let lent : set c.as_mut_slice.result.now at after ≡ set passes at after = ap (λ (l : List PassValue). set l at after) c.as_mut_slice.ensures.value in
    let written = ap (λ (l : List PassValue). refill (length passes) passes l) lent ∙ refilled passes (set passes at after) (length-set passes at after) in
    subst (λ (l : List PassValue). HaveOffered (c.args.tagged.now ∷ []) passes l) (sym written)
    (have_one c.args.tagged.now passes at after c.from-generation.ensures low (λ other.
    let same : slice_index_or c.as_mut_slice.result.now at c.index-as_mut_slice-generation.result ≡ get_or passes at other =
    ap (λ (l : List PassValue). get_or l at c.index-as_mut_slice-generation.result) c.as_mut_slice.ensures.value ∙ get_or_default passes at _ other low in
    let sees = c.receive.ensures.prefix in
    let called = c.receive.ensures.call in
    subst (λ (pass : PassValue). HasOffered (c.args.tagged.now ∷ []) pass after) same (offered_one c.args.tagged.now c.receive.result _ after sees called)))
