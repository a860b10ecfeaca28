-- What is known of the item in hand.
use Rattle.std.specs.Prelude.{◌≡◌, ℕ, ◌<◌, false, length, Some, Option}
use Rattle.model.specs.Worlds.{World}
use Rattle.model.specs.Placements.{Placement}
use Rattle.model.specs.Boards.{is_set}

-- it is of the pool
abbrev pub HandKnown : World → Option ℕ → Type 0
HandKnown w hand = (i : ℕ) → hand ≡ Some i → i < length w.pool

-- it is not set
abbrev pub HandUnset : Placement → Option ℕ → Type 0
HandUnset p hand = (i : ℕ) → hand ≡ Some i → is_set p i ≡ false
