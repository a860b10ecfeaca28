use Rattle.std.proofs.Common.{◌≡◌, true, false, set, replicate, ap, ◌∙◌, subst}
use Rattle.scratch.specs.Marks.{region_marks}
use Rattle.scratch.proofs.Rows.{length_marked}
use Rattle.model.proofs.Reaches.{reach_law}
use Rattle.world.specs.Worlds.{world_of}
use Rattle.explore.specs.Marked.{regions_in}
use Rattle.explore.specs.Reaching.{Spread}
use Rattle.explore.proofs.Known.{proper_world}
use Rattle.explore.proofs.Sweeping.{spread_reached}
use Rattle.explore.proofs.player.Player.mark_reached.Goals as goal

pub returns : goal.returns
unfolding regions_in
returns g c =
    let m = g.I.Inventory.meaning in
    let w = world_of c.args.self.now.world.now in
    let v = g.I.Inventory.value c.args.self.now.held in
    let proper = proper_world c.args.self.now.world.now in
    let s = region_marks c.spread.new.regions in
    let start : region_marks c.mark.new.self ≡ set (replicate 64 false) 0 true = c.mark.ensures ∙ ap (λ r. set r 0 true) c.clear.ensures in
    spread_reached m w v proper (reach_law m g.I.Inventory.lawful w v proper) s (length_marked 64 c.spread.new.regions) (subst (λ r. Spread m w v r s) start c.spread.ensures)
