use Rattle.std.proofs.Common.{◌≡◌, ◌+◌, ◌-◌, length}
use Rattle.model.specs.Marks.{at, first}
use Rattle.model.specs.Worlds.{stocked}
use Rattle.model.specs.Placements.{round}
use Rattle.world.specs.Worlds.{world_of}
use Rattle.explore.specs.Marked.{places_in}
use Rattle.explore.proofs.spheres.sphere.Given as goal

abbrev pub invariant-loop-round : goal.invariant-loop-round
invariant-loop-round g l =
    let w = world_of l.world in
    let m = g.I.Inventory.meaning in
    let n = length w.places in
    (places_in w l.places ≡ round m w l.placement (stocked m w) (l.round - 1))
    × (first (n + 1 - l.round) l.round (λ r. at (round m w l.placement (stocked m w) r) l.place) ≡ first n 1 (λ r. at (round m w l.placement (stocked m w) r) l.place))
