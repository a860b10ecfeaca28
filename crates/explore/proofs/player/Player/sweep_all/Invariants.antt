use Rattle.std.proofs.Common.{[], take}
use Rattle.std.specs.List.{AllByRecursion}
use Rattle.scratch.specs.Held.{held as stacked}
use Rattle.scratch.specs.Marks.{region_marks}
use Rattle.world.specs.Worlds.{world_of}
use Rattle.explore.specs.Reaching.{Widens, Settled}
use Rattle.explore.proofs.player.Player.sweep_all.Given as goal

abbrev pub invariant-loop-gate : goal.invariant-loop-gate
invariant-loop-gate g l =
    let m = g.I.Inventory.meaning in
    let w = world_of l.self.world.now in
    let v = g.I.Inventory.value l.self.held in
    Widens m w v (region_marks l.initial.regions) [] (region_marks l.regions) (stacked l.waiting.stack)
    × AllByRecursion (Settled m v (stacked l.waiting.stack) (region_marks l.regions)) (take l.gate-index w.gates)
