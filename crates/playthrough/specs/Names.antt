-- The names that the example world's tables are printed with.
use Rattle.std.specs.Prelude.{ℕ, cond, List, codes, ◌==◌}

-- the yard and the cave
abbrev pub region_named : ℕ → List ℕ
region_named region = cond (region == 0) (codes "yard") (cond (region == 1) (codes "cave") (codes "nowhere"))

-- the well, the shed and the vault
abbrev pub place_named : ℕ → List ℕ
place_named place = cond (place == 0) (codes "well") (cond (place == 1) (codes "shed") (cond (place == 2) (codes "vault") (codes "nowhere")))

-- the lamp, the coin and the sword
abbrev pub kind_named : ℕ → List ℕ
kind_named code = cond (code == 0) (codes "lamp") (cond (code == 1) (codes "coin") (cond (code == 3) (codes "sword") (codes "nothing")))
