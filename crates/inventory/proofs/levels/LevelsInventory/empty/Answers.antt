use Rattle.std.proofs.Common.{rules}
use Rattle.inventory.proofs.Repeated.{no_levels, none_within}
use Rattle.inventory.proofs.levels.LevelsInventory.empty.Goals as goal

pub invariant_of-result : goal.invariant_of-result
invariant_of-result g c = search (rules, none_within)

pub returns : goal.returns
returns g c = search (rules, no_levels)
