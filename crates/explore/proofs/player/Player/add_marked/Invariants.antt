use Rattle.std.proofs.Common.{◌≡◌, drop}
use Rattle.model.specs.Worlds.{with_items}
use Rattle.model.specs.Placements.{lying}
use Rattle.world.specs.Worlds.{world_of}
use Rattle.explore.specs.Marked.{places_in}
use Rattle.explore.proofs.player.Player.add_marked.Given as goal

abbrev pub invariant-loop-k : goal.invariant-loop-k
invariant-loop-k g l =
    let m = g.I.Inventory.meaning in
    let w = world_of l.initial.self.world.now in
    let s = places_in w l.places in
    (l.self.world ≡ l.initial.self.world)
    × (with_items m w (g.I.Inventory.value l.self.held) (lying (drop l.k l.own) (drop l.k s)) ≡ with_items m w (g.I.Inventory.value l.initial.self.held) (lying l.own s))
