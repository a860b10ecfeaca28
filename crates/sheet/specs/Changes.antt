-- What a change of one place answers, and what it leaves.
use Rattle.std.specs.Prelude.{ℕ, cond, length, Some, None, Ok, Err, Option, Result, nat_lt, slice_set}
use Rattle.model.specs.Placements.{Placement, item_at}
use Rattle.model.specs.Boards.{no_item, is_set}
use Rattle.sheet.specs.declared.refusal.PlaceRefusal.{PlaceRefusal}
use Rattle.sheet.specs.declared.refusal.PlaceRefusal.TheVariants.{NoPlace, PlaceTaken, NoItem, ItemSet, PlaceEmpty}

-- a placement, unless there is a refusal
abbrev pub unless : {E : Type 0} → Option E → Placement → Result Placement E
unless None p = Ok p
unless (Some why) p = Err why

-- the answer of a call that is to leave a placement
abbrev pub told : {E : Type 0} → Result Placement E → Result (Unit {0}) E
told (Ok p) = Ok tt
told (Err why) = Err why

-- what the call leaves: that placement, or the old one where it is refused
abbrev pub left_by : {E : Type 0} → Result Placement E → Placement → Placement
left_by (Ok p) old = p
left_by (Err why) old = old

-- why an item is not laid down at place k
abbrev pub set_refusal : Placement → ℕ → ℕ → Option PlaceRefusal
set_refusal p k i =
    cond (nat_lt k (length p))
    (cond (no_item (item_at p k))
    (cond (nat_lt i 256)
    (cond (is_set p i) (Some ItemSet) None)
    (Some NoItem))
    (Some PlaceTaken))
    (Some NoPlace)

-- an item laid down at place k
abbrev pub laid : Placement → ℕ → ℕ → Result Placement PlaceRefusal
laid p k i = unless (set_refusal p k i) (slice_set p k (Some i))

-- the item that lies there, to be taken away
abbrev pub found : Option ℕ → Result ℕ PlaceRefusal
found None = Err PlaceEmpty
found (Some i) = Ok i

-- what is taken away from place k
abbrev pub taken_up : Placement → ℕ → Result ℕ PlaceRefusal
taken_up p k = cond (nat_lt k (length p)) (found (item_at p k)) (Err NoPlace)
