use Rattle.model.specs.Worlds.{opens}
use Rattle.world.specs.Worlds.{world_of}
use Rattle.explore.specs.Marked.{places_in}
use Rattle.explore.specs.Gathering.{Opening}
use Rattle.explore.proofs.player.Player.open_places.Given as goal

abbrev pub invariant-loop-k : goal.invariant-loop-k
invariant-loop-k g l =
    let w = world_of l.self.world.now in
    Opening (opens g.I.Inventory.meaning w (g.I.Inventory.value l.self.held)) (places_in w l.initial.places) (places_in w l.places) l.k l.grew
