use Rattle.std.proofs.Common.{◌≤◌, length}
use Rattle.scratch.specs.Held.{held as stacked}
use Rattle.scratch.specs.Marks.{region_marks}
use Rattle.world.specs.Worlds.{world_of}
use Rattle.explore.specs.Reaching.{Widens}
use Rattle.explore.proofs.Chains.{gates_to, Leaves, Past}
use Rattle.explore.proofs.player.Player.sweep.Given as goal

abbrev pub invariant-loop-next : goal.invariant-loop-next
invariant-loop-next g l =
    let m = g.I.Inventory.meaning in
    let w = world_of l.self.world.now in
    let v = g.I.Inventory.value l.self.held in
    Widens m w v (region_marks l.initial.regions) (stacked l.initial.waiting.stack) (region_marks l.regions) (stacked l.waiting.stack)
    × (gates_to l.next ≤ length l.gates)
    × Leaves l.gates l.near l.next
    × Past m w v l.near (gates_to l.next) (stacked l.waiting.stack) (region_marks l.regions)

abbrev pub decreases-loop-next : goal.decreases-loop-next
decreases-loop-next g l = gates_to l.next
