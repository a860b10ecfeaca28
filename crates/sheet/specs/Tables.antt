-- What is true of the placement of every table of place records, and what a new one holds.
use Rattle.std.specs.Prelude.{◌≡◌, ℕ, ◌<◌, ◌≤◌, length, map, Some, None}
use Rattle.model.specs.Worlds.{World}
use Rattle.model.specs.Placements.{Placement, item_at, Once}

-- few places, no item at two of them, and items that fit a file
pub record Sound (p : Placement) : Type 0 where
  pub few : length p ≤ 256
  pub once : Once p
  pub small : (k i : ℕ) → item_at p k ≡ Some i → i < 256

-- no item at any place of a world
abbrev pub blank : World → Placement
blank w = map (λ q. None) w.places
