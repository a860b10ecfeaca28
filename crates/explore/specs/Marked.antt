-- The marks that stand for a world's own regions and places.
use Rattle.std.specs.Prelude.{ℕ, Bool, List, length, take}
use Rattle.scratch.specs.Marks.{region_marks, place_marks}
use Rattle.model.specs.Worlds.{World as Atlas}

-- which of the world's regions are marked in a row
unfoldable pub regions_in : Atlas → List ℕ → List Bool
regions_in w row = take w.regions (region_marks row)

-- which of the world's places are marked in a row
unfoldable pub places_in : Atlas → List ℕ → List Bool
places_in w row = take (length w.places) (place_marks row)
