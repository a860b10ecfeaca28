-- The sheet file of a placement in the example world.
use Rattle.std.specs.Prelude.{◌≡◌, ℕ, List, [], ◌∷◌, Ok}
use Rattle.model.specs.Example.{world_a, coin_first}
use Rattle.sheet.specs.Files.{file_of, loaded}

-- three places; item 1 in the well, item 0 in the shed, item 2 in the vault
abbrev pub coin_first_file : List ℕ
coin_first_file = 0 ∷ 3 ∷ 0 ∷ 2 ∷ 0 ∷ 1 ∷ 0 ∷ 3 ∷ []

-- The placement is written as these bytes, and they are loaded as the placement.
pub record SheetExamples : Type 0 where
  pub coins_written : file_of coin_first ≡ coin_first_file
  pub coins_loaded : loaded world_a coin_first_file ≡ Ok coin_first
