use Rattle.std.proofs.Common.{◌+◌, ◌-◌, ◌*◌, length}
use Rattle.scratch.specs.Held.{held as stacked}
use Rattle.scratch.specs.Marks.{region_marks}
use Rattle.model.specs.Marks.{count}
use Rattle.world.specs.Worlds.{world_of}
use Rattle.explore.specs.Reaching.{Underway}
use Rattle.explore.proofs.player.Player.spread.Given as goal

abbrev pub invariant-loop-near : goal.invariant-loop-near
invariant-loop-near g l =
    Underway g.I.Inventory.meaning (world_of l.self.world.now) (g.I.Inventory.value l.self.held) (region_marks l.initial.regions) (region_marks l.regions) (stacked l.waiting.stack)

abbrev pub decreases-loop-near : goal.decreases-loop-near
decreases-loop-near g l = 2 * (64 - count (region_marks l.regions)) + length (stacked l.waiting.stack)
