-- Words that meet the rule: their directory and their regions are those of the world.
use Rattle.std.proofs.Common.{◌≡◌, ℕ, ◌+◌, ◌-◌, ◌*◌, ◌<◌, ◌≤◌, List, [], length, map, take, drop, get_or, sym, ap, ◌∙◌, subst, arith, eq-eqb, ne_eqb}
use Rattle.std.specs.Prelude.{Option, None, ◌==◌}
use Rattle.std.proofs.lemmas.List.{ext_get_or, get_or-take, get_or-map, length-map, length-take-le, length-drop, get_or-drop}
use Rattle.std.proofs.lemmas.List.Sums.{position_or_len_is}
use mathlib.Core.Option.{some}
use lib.ListN.{get_elem?}
use Rattle.table_rows.specs.declared.view.Parameters.{Parameters}
use Rattle.table_rows.specs.declared.view.Front.{Front}
use Rattle.table_rows.specs.declared.view.FounderView.{FounderView}
use Rattle.table_rows.specs.declared.view.View.{View}
use Rattle.table_rows.specs.declared.view.View.TheVariants.{Founder}
use Rattle.table_rows.specs.Layout.{basis_length, length_of, place_of, region_of, regions_of, region_length}
use Rattle.table_rows.specs.Good.{IsGood, offers_of}
use Rattle.table_rows.specs.Views.{width_of}
use Rattle.table_rows.specs.Closing.{StandsAmong, IsClosed}
use Rattle.table_rows.specs.Rule.{World, StandsIn, AreLaidOut, AreCounted, FounderKnows, TableRule}
use Rattle.table_rows.proofs.Places.{inside}
use Rattle.table_rows.proofs.Sounds.{front_is}

further_on : (k s d place : ℕ) → place_of k s d 0 + place ≡ place_of k s d place
further_on k s d place = omega arith

module _ (p : Parameters) (w : World) (words : List ℕ) (laid : AreLaidOut p w words) (counted : AreCounted p w) where
  directory_long : length (take p.k words) ≡ p.k
  directory_long = let count : length words ≡ basis_length p.k p.s p.passes = laid.count in
      let x : ℕ = (p.passes + p.k) * region_length p.k p.s in let count' : length words ≡ p.k + x = count in length-take-le p.k words (omega arith)

  length_is : length_of p.k words ≡ length w.dir
  length_is =
      let long : length (take p.k words) ≡ p.k = directory_long in
      let short : length w.dir ≤ p.k = counted.short in
      position_or_len_is (λ word. word == 0) (take p.k words) (length w.dir) 0 (omega arith)
      (λ n lt. let lo : 1 ≤ get_or w.dir n 0 = (counted.within n lt).0 in
      let there : get_or (take p.k words) n 0 ≡ get_or w.dir n 0 = get_or-take p.k words n 0 (omega arith) ∙ laid.named n lt in
      ne_eqb (get_or (take p.k words) n 0) 0 (λ e. omega arith))
      (λ lt. let small : length w.dir < p.k = omega arith in
      eq-eqb (get_or (take p.k words) (length w.dir) 0) 0 (get_or-take p.k words (length w.dir) 0 small ∙ laid.empty (length w.dir) (omega arith) small))

  pub directory_is : take (length_of p.k words) words ≡ w.dir
  directory_is =
      let short : length w.dir ≤ p.k = counted.short in
      let count : length words ≡ basis_length p.k p.s p.passes = laid.count in
      let x : ℕ = (p.passes + p.k) * region_length p.k p.s in let count' : length words ≡ p.k + x = count in
      let long : length (take (length w.dir) words) ≡ length w.dir = length-take-le (length w.dir) words (omega arith) in
      ap (λ (n : ℕ). take n words) length_is
      ∙ ext_get_or 0 (take (length w.dir) words) w.dir long (λ n lt. get_or-take (length w.dir) words n 0 (omega arith) ∙ laid.named n (omega arith))

  names_regions : (n : ℕ) → n < length_of p.k words → (1 ≤ get_or words n 0) × (get_or words n 0 ≤ p.passes + length_of p.k words)
  names_regions n lt =
      let long : length_of p.k words ≡ length w.dir = length_is in
      let small : n < length w.dir = omega arith in
      let named : get_or words n 0 ≡ get_or w.dir n 0 = laid.named n small in
      let from : 1 ≤ get_or w.dir n 0 = (counted.within n small).0 in
      let to : get_or w.dir n 0 ≤ p.passes + length w.dir = (counted.within n small).1 in (omega arith, omega arith)

  region_is : (n : ℕ) → n < length w.dir → region_of p.k p.s words (get_or w.dir n 0) ≡ get_or w.log n []
  region_is n lt =
      let d : ℕ = get_or w.dir n 0 in
      let within = counted.within n lt in
      let to : d ≤ p.passes + length w.dir = within.1 in
      let short : length w.dir ≤ p.k = counted.short in
      let logged : length w.log ≡ length w.dir = counted.logged in
      let start : ℕ = place_of p.k p.s d 0 in
      let count : length words ≡ basis_length p.k p.s p.passes = laid.count in
      let wide : length (get_or w.log n []) ≡ width_of p = counted.wide n [] (omega arith) in
      let last = inside p.k p.s p.passes d (width_of p - 1) within.0 (omega arith) (omega arith) in
      let dropped : length (drop start words) ≡ length words - start = length-drop start words in
      let enough : width_of p ≤ length (drop start words) = omega arith in
      let long : length (region_of p.k p.s words d) ≡ width_of p = length-take-le (width_of p) (drop start words) enough in
      ext_get_or 0 (region_of p.k p.s words d) (get_or w.log n []) (long ∙ sym wide)
      (λ place lp. let lp' : place < width_of p = omega arith in
      get_or-take (width_of p) (drop start words) place 0 lp'
      ∙ (get_or-drop start words place 0 ∙ (ap (λ (i : ℕ). get_or words i 0) (further_on p.k p.s d place) ∙ laid.regions n place lt lp')))

  pub regions_are : regions_of p.k p.s words ≡ w.log
  regions_are =
      let logged : length w.log ≡ length w.dir = counted.logged in
      let mapped : length (map (region_of p.k p.s words) w.dir) ≡ length w.dir = length-map w.dir (region_of p.k p.s words) in
      ap (λ (l : List ℕ). map (region_of p.k p.s words) l) directory_is
      ∙ ext_get_or [] (map (region_of p.k p.s words) w.dir) w.log (mapped ∙ sym logged)
      (λ n lt. get_or-map (region_of p.k p.s words) w.dir n 0 [] (omega arith) ∙ region_is n (omega arith))

  stands_among : (front : Front) → StandsIn p w front → StandsAmong p words front
  stands_among front stands = record {
    prefix = (stands.prefix.0, directory_is ∙ stands.prefix.1);
    regions = λ whole. front_is p w counted front stands whole ∙ ap (λ (l : List (List ℕ)). take (length front.known) l) (sym regions_are);
  }

-- words that meet the rule with the founder's view
pub closes : (p : Parameters) (f : FounderView) (words : List ℕ) (views : List View) (seat : ℕ) → TableRule p words views → get_elem? views seat ≡ some (Founder f) → IsClosed p f words
closes p f words views seat rule at =
    let w : World = rule.world in
    let knows : FounderKnows p w seat f = rule.seated.each seat (Founder f) at in
    let all : regions_of p.k p.s words ≡ w.log = regions_are p w words rule.laid rule.counted in record {
      rule = (views, seat, rule, at);
      count = rule.laid.count;
      within = names_regions p w words rule.laid rule.counted;
      good = subst (λ (l : List (List ℕ)). IsGood p l) (sym all) rule.counted.good;
      front = stands_among p w words rule.laid rule.counted f.sight.front knows.sight.front;
      olds = λ k d h. stands_among p w words rule.laid rule.counted (get_or f.sight.olds k d) (knows.sight.olds k d h).0;
      own = λ m own e. rule.counted.joined_own m own (ap (λ (l : List (Option (List (ℕ × ℕ)))). get_or l m None) (sym knows.joined) ∙ e) ∙ ap (λ (l : List (List ℕ)). offers_of m l) (sym all);
      others = λ m past. ap (λ (l : List (List ℕ)). offers_of m l) all
          ∙ rule.counted.silent m (subst (λ (l : List (Option (List (ℕ × ℕ)))). length l ≤ m) knows.joined past);
    }
