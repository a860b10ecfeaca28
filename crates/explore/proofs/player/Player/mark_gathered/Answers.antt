use Rattle.std.proofs.Common.{true, set, sym, refl, ap, ◌∙◌, subst, arith}
use Rattle.scratch.specs.Marks.{region_marks}
use Rattle.scratch.proofs.Rows.{length_marked}
use Rattle.model.specs.Laws.{Closed}
use Rattle.model.proofs.Sets.{count_le}
use Rattle.world.specs.Worlds.{world_of}
use Rattle.explore.specs.Marked.{regions_in, places_in}
use Rattle.explore.specs.Gathering.{Grew}
use Rattle.explore.proofs.Known.{proper_world}
use Rattle.explore.proofs.Marked.{length_places_in}
use Rattle.explore.proofs.Eagerly.{ahead_none, ahead_spread, ahead_all, ahead_reached}
use Rattle.explore.proofs.player.Player.mark_gathered.Goals as goal

pub loop-player-init : goal.loop-player-init
loop-player-init g c = (
  refl,
  ahead_none g.I.Inventory.meaning g.I.Inventory.lawful (world_of c.args.self.now.world.now) c.args.placement.now _ (proper_world c.args.self.now.world.now) c.mark.new.self c.clear-2.new.self
      (c.mark.ensures ∙ ap (λ s. set s 0 true) c.clear.ensures) c.clear-2.ensures,
)

pub loop-player-preserved : goal.loop-player-preserved
loop-player-preserved g c =
    let w = world_of c.args.self.now.world.now in
    let v = g.I.Inventory.value c.args.self.now.held in
    let inv = c.loop-player.invariant in
    let spread = ahead_spread g.I.Inventory.meaning g.I.Inventory.lawful w c.args.placement.now v (region_marks c.loop-player.regions) (places_in w c.loop-player.places) (g.I.Inventory.value c.loop-player.player.held) inv.1
    (proper_world c.args.self.now.world.now) (region_marks c.spread.new.regions) (rw inv.0 at c.spread.ensures) in
    let ahead = rw inv.0 at c.take_open.ensures.ahead in
    (c.take_open.ensures.world ∙ inv.0, ahead v spread)

pub loop-player-smaller : goal.loop-player-smaller
loop-player-smaller g c =
    let w = world_of c.args.self.now.world.now in
    let few = count_le (places_in w c.take_open.new.places) in
    let size = length_places_in w c.take_open.new.places (proper_world c.args.self.now.world.now) in
    let more : Grew true (places_in w c.loop-player.places) (places_in w c.take_open.new.places) = rw c.loop-player.invariant.0 at c.if-not-take_open.ensures.grew in
    omega arith

pub returns : goal.returns
unfolding regions_in
returns g c =
    let w = world_of c.args.self.now.world.now in
    let m = g.I.Inventory.meaning in
    let l = g.I.Inventory.lawful in
    let p = c.args.placement.now in
    let v = g.I.Inventory.value c.args.self.now.held in
    let r = region_marks c.spread.new.regions in
    let s = places_in w c.take_open.new.places in
    let u = g.I.Inventory.value c.take_open.new.self.held in
    let proper = proper_world c.args.self.now.world.now in
    let inv = c.loop-player.invariant in
    let quiet = rw inv.0 at c.if-not-take_open.ensures.quiet in
    let spread = rw inv.0 at c.spread.ensures in
    let ahead = rw inv.0 at c.take_open.ensures.ahead in
    let turned = ahead v (ahead_spread m l w p v (region_marks c.loop-player.regions) (places_in w c.loop-player.places) (g.I.Inventory.value c.loop-player.player.held) inv.1 proper r spread) in
    let closed : Closed m w u r = subst (λ x. Closed m w x r) (sym quiet.0) spread.closed in
    let all = ahead_all m l w p v r s u turned proper (length_places_in w c.take_open.new.places proper) closed quiet.1 in
    record {
      places = all;
      regions = ahead_reached m l w p v r s u turned proper (length_marked 64 c.spread.new.regions) all closed;
    }
