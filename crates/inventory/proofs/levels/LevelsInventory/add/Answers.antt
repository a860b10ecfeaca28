use Rattle.std.proofs.Common.{rules, arith}
use Rattle.inventory.proofs.Tables.{raised, full}
use Rattle.inventory.proofs.levels.LevelsInventory.add.Goals as goal

pub returns-then-self-index : goal.returns-then-self-index
returns-then-self-index g c = search (rules, raised)

pub returns-else-index-lt32 : goal.returns-else-index-lt32
returns-else-index-lt32 g c = full _ _ _ (λ known. grind arith)
