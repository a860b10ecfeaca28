use Rattle.std.proofs.Common.{length, ap, subst, arith}
use Rattle.scratch.specs.Held.{held as stacked}
use Rattle.scratch.specs.Marks.{region_marks}
use Rattle.scratch.proofs.Rows.{length_marked}
use Rattle.model.proofs.Sets.{count_le}
use Rattle.world.specs.Worlds.{world_of}
use Rattle.explore.specs.Reaching.{Underway}
use Rattle.explore.proofs.Sweeping.{underway_turn, spread}
use Rattle.explore.proofs.player.Player.spread.Goals as goal

pub loop-near-smaller : goal.loop-near-smaller
loop-near-smaller g c =
    let size = length_marked 64 c.loop-near.regions in
    let size' = length_marked 64 c.sweep.new.regions in
    let few = count_le (region_marks c.loop-near.regions) in
    let few' = count_le (region_marks c.sweep.new.regions) in
    let new = c.sweep.ensures.widens.waits in
    let more = c.sweep.ensures.widens.more in
    let top = ap length c.in-Some.ensures.0 in
    omega arith

pub loop-near-preserved : goal.loop-near-preserved
loop-near-preserved g c =
    let m = g.I.Inventory.meaning in
    let w = world_of c.args.self.now.world.now in
    let v = g.I.Inventory.value c.args.self.now.held in
    let s₀ = region_marks c.sweep_all.new.regions in
    let s = region_marks c.loop-near.regions in
    underway_turn m w v s₀ s c.in-Some.near (stacked c.pop.new.self.stack) (region_marks c.sweep.new.regions) (stacked c.sweep.new.waiting.stack)
    (subst (Underway m w v s₀ s) c.in-Some.ensures.0 c.loop-near.invariant) c.sweep.ensures.widens c.sweep.ensures.left

pub returns : goal.returns
returns g c =
    let m = g.I.Inventory.meaning in
    let w = world_of c.args.self.now.world.now in
    let v = g.I.Inventory.value c.args.self.now.held in
    spread m w v (region_marks c.args.regions.now) (region_marks c.sweep_all.new.regions) (region_marks c.loop-near.regions) (stacked c.sweep_all.new.waiting.stack) (stacked c.loop-near.waiting.stack)
    c.sweep_all.ensures.widens c.loop-near.invariant c.in_default.ensures.0
