use Rattle.std.proofs.Common.{◌≡◌, drop}
use Rattle.model.specs.Worlds.{with_items}
use Rattle.world.specs.Worlds.{world_of}
use Rattle.filling.proofs.attempt.Attempt.gather.Given as goal

abbrev pub invariant-loop-item : goal.invariant-loop-item
invariant-loop-item g l =
    let m = g.I.Inventory.meaning in
    let w = world_of l.self.world.now in
    (l.player.world ≡ l.initial.player.world)
    × (with_items m w (g.I.Inventory.value l.player.held) (drop l.item-index l.item-items) ≡ with_items m w (g.I.Inventory.value l.initial.player.held) l.item-items)
