-- Good regions have packets that fit, pass and are fresh one after another, and rows that stand for them.
use Rattle.std.proofs.Common.{◌≡◌, ℕ, zero, suc, ◌<◌, List, [], ◌∷◌, length, map, take, get_or, sym, refl, ap, ◌∙◌, subst}
use Rattle.std.specs.Prelude.{All}
use Rattle.std.proofs.lemmas.List.{length-map, get_or-map}
use Rattle.linear_spec.specs.declared.packet.Packet.{Packet}
use Rattle.linear_spec.specs.Packet.{Fits}
use Rattle.linear_spec.specs.Passing.{Passes}
use Rattle.linear_spec.specs.Cases.{IsFresh}
use Rattle.linear_spec.specs.Rows.{StandsFor, StandForAll}
use Rattle.table_rows.specs.declared.view.Parameters.{Parameters}
use Rattle.table_rows.specs.Good.{HasRecord, IsGood, IsNextRegion, packet_at, row_at}

pub next_is : (p : Parameters) (before : List (List ℕ)) (region : List ℕ) → HasRecord p before region → IsNextRegion p before region
unfolding IsNextRegion
next_is p before region has = has

pub next_has : (p : Parameters) (before : List (List ℕ)) (region : List ℕ) → IsNextRegion p before region → HasRecord p before region
unfolding IsNextRegion
next_has p before region next = next

take_map : {X Y : Type 0} (f : X → Y) (n : ℕ) (l : List X) → take n (map f l) ≡ map f (take n l)
take_map f zero l = refl
take_map f (suc n) [] = refl
take_map f (suc n) (x ∷ xs) = ap (λ (t : List _). f x ∷ t) (take_map f n xs)

module _ (p : Parameters) (regions : List (List ℕ)) (good : IsGood p regions) where
  abbrev packets : List Packet
  packets = map (packet_at p) regions

  abbrev rows : List Packet
  rows = map (row_at p) regions

  has : (n : ℕ) → n < length regions → HasRecord p (take n regions) (get_or regions n [])
  has n lt = next_has p (take n regions) (get_or regions n []) (good n lt)

  packet_is : (n : ℕ) (d : Packet) → n < length regions → get_or packets n d ≡ packet_at p (get_or regions n [])
  packet_is n d lt = get_or-map (packet_at p) regions n [] d lt

  row_is : (n : ℕ) (d : Packet) → n < length regions → get_or rows n d ≡ row_at p (get_or regions n [])
  row_is n d lt = get_or-map (row_at p) regions n [] d lt

  below : (n : ℕ) → n < length packets → n < length regions
  below n lt = subst (λ (m : ℕ). n < m) (length-map regions (packet_at p)) lt

  pub all_fit : All (Fits p.k p.s) packets
  all_fit = λ n d lt. subst (Fits p.k p.s) (sym (packet_is n d (below n lt))) (has n (below n lt)).fits

  pub all_pass : All (Passes p.equations.value) packets
  all_pass = λ n d lt. subst (Passes p.equations.value) (sym (packet_is n d (below n lt))) (has n (below n lt)).passes

  pub each_fresh : (n : ℕ) (d : Packet) → n < length packets → IsFresh p.k (take n packets) (get_or packets n d)
  each_fresh n d lt = subst (λ (front : List Packet). IsFresh p.k front (get_or packets n d)) (sym (take_map (packet_at p) n regions))
      (subst (λ (it : Packet). IsFresh p.k (map (packet_at p) (take n regions)) it) (sym (packet_is n d (below n lt))) (has n (below n lt)).fresh)

  pub all_stand : StandForAll p.k p.s packets rows
  all_stand = record {
    count = length-map regions (row_at p) ∙ sym (length-map regions (packet_at p));
    each = λ n packet row lt. let ln : n < length regions = below n lt in
        subst (λ (front : List Packet). StandsFor p.k p.s front (take n rows) (get_or packets n packet) (get_or rows n row)) (sym (take_map (packet_at p) n regions))
        (subst (λ (before : List Packet). StandsFor p.k p.s (map (packet_at p) (take n regions)) before (get_or packets n packet) (get_or rows n row)) (sym (take_map (row_at p) n regions))
        (subst (λ (it : Packet). StandsFor p.k p.s (map (packet_at p) (take n regions)) (map (row_at p) (take n regions)) it (get_or rows n row)) (sym (packet_is n packet ln))
        (subst (λ (it : Packet). StandsFor p.k p.s (map (packet_at p) (take n regions)) (map (row_at p) (take n regions)) (packet_at p (get_or regions n [])) it) (sym (row_is n row ln))
        (has n ln).stands)));
  }
