use Rattle.std.proofs.Common.{◌≡◌}
use Rattle.scratch.specs.Marks.{region_marks}
use Rattle.world.specs.Worlds.{world_of}
use Rattle.explore.specs.Marked.{places_in}
use Rattle.explore.specs.Gathering.{Ahead, Grew, Quiet}
use Rattle.explore.proofs.player.Player.take_open.Given as goal

abbrev pub invariant-loop-k : goal.invariant-loop-k
invariant-loop-k g l =
    let w = world_of l.initial.self.world.now in
    let m = g.I.Inventory.meaning in
    let r = region_marks l.regions in
    let s₀ = places_in w l.initial.places in
    let s = places_in w l.places in
    let u₀ = g.I.Inventory.value l.initial.self.held in
    let u = g.I.Inventory.value l.self.held in
    (l.self.world ≡ l.initial.self.world)
    × ((v : m.Value) → Ahead m w l.placement v r s₀ u₀ → Ahead m w l.placement v r s u)
    × Grew l.grew s₀ s
    × Quiet m w l.grew u₀ u r s l.k
