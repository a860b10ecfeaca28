-- The marks of a world's own regions and places.
use Rattle.std.proofs.Common.{◌≡◌, ℕ, ◌<◌, true, false, List, length, get_or, take, set, replicate, ap, ◌∙◌, arith}
use Rattle.std.proofs.lemmas.List.{get_or-take, length-take-le, take-replicate}
use Rattle.scratch.specs.Marks.{region_marks, place_marks}
use Rattle.scratch.proofs.Rows.{length_marked}
use Rattle.model.specs.Marks.{at}
use Rattle.model.specs.Proper.{Proper}
use Rattle.model.specs.Worlds.{World as Atlas}
use Rattle.explore.specs.Marked.{regions_in, places_in}
use Rattle.explore.proofs.Counting.{take_set_any}

module _ (w : Atlas) (row : List ℕ) where
  pub at_regions_in : (r : ℕ) → r < w.regions → at (regions_in w row) r ≡ get_or (region_marks row) r false
  unfolding regions_in
  at_regions_in r h = get_or-take w.regions (region_marks row) r false h

  pub at_places_in : (k : ℕ) → k < length w.places → at (places_in w row) k ≡ get_or (place_marks row) k false
  unfolding places_in
  at_places_in k h = get_or-take (length w.places) (place_marks row) k false h

  pub length_places_in : Proper w → length (places_in w row) ≡ length w.places
  unfolding places_in
  length_places_in proper =
      let few = proper.few_places in
      let size = length_marked 256 row in
      length-take-le (length w.places) (place_marks row) (omega arith)

  pub no_places_in : Proper w → place_marks row ≡ replicate 256 false → places_in w row ≡ replicate (length w.places) false
  unfolding places_in
  no_places_in proper e = ap (take (length w.places)) e ∙ take-replicate (length w.places) 256 false proper.few_places

  pub places_in_set : (after : List ℕ) (k : ℕ) → place_marks after ≡ set (place_marks row) k true → places_in w after ≡ set (places_in w row) k true
  unfolding places_in
  places_in_set after k e = ap (take (length w.places)) e ∙ take_set_any (length w.places) (place_marks row) k true

  pub places_in_kept : (after : List ℕ) → place_marks after ≡ place_marks row → places_in w after ≡ places_in w row
  unfolding places_in
  places_in_kept after e = ap (take (length w.places)) e

  pub regions_in_kept : (after : List ℕ) → region_marks after ≡ region_marks row → regions_in w after ≡ regions_in w row
  unfolding regions_in
  regions_in_kept after e = ap (take w.regions) e
