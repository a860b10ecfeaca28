-- What rows of marks say.
use Rattle.std.specs.Prelude.{ℕ, zero, suc, Bool, not, List, [], ◌∷◌, drop, ◌==◌, slice_index}

-- which of the first numbers are marked: those whose byte is not 0
unfoldable pub marked : (count : ℕ) → List ℕ → List Bool
marked zero row = []
marked (suc n) row = not (slice_index row 0 == 0) ∷ marked n (drop 1 row)

-- which of the 64 regions and of the 256 places are marked
abbrev pub region_marks : List ℕ → List Bool
region_marks row = marked 64 row

abbrev pub place_marks : List ℕ → List Bool
place_marks row = marked 256 row
