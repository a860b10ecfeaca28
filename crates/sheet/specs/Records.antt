-- What place records say.
use Rattle.std.specs.Prelude.{ℕ, Bool, true, not, ◌&&◌, Some, None, Option, nat_lt}
use Rattle.model.specs.Placements.{Placement}
use Rattle.model.specs.Boards.{is_set}

-- whether a record can be laid down: its item is one that a pool may have, and lies nowhere yet
abbrev pub may_lie : Placement → Option ℕ → Bool
may_lie p None = true
may_lie p (Some i) = nat_lt i 256 && not (is_set p i)
