-- What is shown of sheet files.
use Rattle.std.specs.Prelude.{◌≡◌, ℕ, ◌+◌, ◌*◌, ◌<◌, T, List, length, Ok}
use Rattle.std.specs.List.{AllByRecursion}
use Rattle.model.specs.Worlds.{World}
use Rattle.model.specs.Proper.{proper}
use Rattle.model.specs.Placements.{Placement, Placed}
use Rattle.sheet.specs.Files.{file_of, loaded}

-- every number of a row is a byte's
abbrev pub Bytes : List ℕ → Type 0
Bytes row = AllByRecursion (λ byte. byte < 256) row

-- Loading and writing undo each other, and what is loaded is a placement of the world's items.
pub record FileLaws : Type 0 where
  pub long : (p : Placement) → length (file_of p) ≡ 2 + 2 * length p
  pub bytes : (w : World) (p : Placement) → T (proper w) → Placed w p → Bytes (file_of p)
  pub read_back : (w : World) (p : Placement) → Placed w p → loaded w (file_of p) ≡ Ok p
  pub written_back : (w : World) (file : List ℕ) (p : Placement) → Bytes file → loaded w file ≡ Ok p → file_of p ≡ file
  pub placed : (w : World) (file : List ℕ) (p : Placement) → loaded w file ≡ Ok p → Placed w p
