use Rattle.std.proofs.Common.{◌≡◌, ◌-◌, length}
use Rattle.scratch.specs.Marks.{region_marks}
use Rattle.model.specs.Marks.{count}
use Rattle.world.specs.Worlds.{world_of}
use Rattle.explore.specs.Marked.{places_in}
use Rattle.explore.specs.Gathering.{Ahead}
use Rattle.explore.proofs.player.Player.mark_gathered.Given as goal

abbrev pub invariant-loop-player : goal.invariant-loop-player
invariant-loop-player g l =
    let w = world_of l.self.world.now in
    (l.player.world ≡ l.self.world)
    × Ahead g.I.Inventory.meaning w l.placement (g.I.Inventory.value l.self.held) (region_marks l.regions) (places_in w l.places) (g.I.Inventory.value l.player.held)

abbrev pub decreases-loop-player : goal.decreases-loop-player
decreases-loop-player g l = let w = world_of l.self.world.now in length w.places - count (places_in w l.places)
