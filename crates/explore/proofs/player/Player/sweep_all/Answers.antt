use Rattle.std.proofs.Common.{◌<◌, [], length, get_or, take, subst, arith}
use Rattle.std.specs.List.{AllByRecursion}
use Rattle.std.proofs.lemmas.List.{take_all}
use Rattle.std.proofs.ByRecursion.{All-get_or, All-more, All-weaker}
use Rattle.scratch.specs.Held.{held as stacked}
use Rattle.scratch.specs.Marks.{region_marks}
use Rattle.scratch.proofs.Rows.{length_marked}
use Rattle.world.specs.Worlds.{world_of, gateway, rule_at, KnownGate}
use Rattle.explore.specs.Reaching.{Settled}
use Rattle.explore.proofs.Known.{no_gate, proper_world, row_found, as_many}
use Rattle.explore.proofs.Sweeping.{widens_on, crossed}
use Rattle.explore.proofs.player.Player.sweep_all.Goals as goal

pub loop-gate-preserved : goal.loop-gate-preserved
unfolding gateway rule_at
loop-gate-preserved g c =
    let world = c.args.self.now.world.now in
    let m = g.I.Inventory.meaning in
    let w = world_of world in
    let v = g.I.Inventory.value c.args.self.now.held in
    let rows = c.gates-gate-items.result.now in
    let i = c.loop-gate.gate-index in
    let s = region_marks c.loop-gate.regions in
    let h = stacked c.loop-gate.waiting.stack in
    let s' = region_marks c.cross.new.regions in
    let h' = stacked c.cross.new.waiting.stack in
    let gate = gateway world (get_or rows i no_gate) in
    let same = c.gates-gate-items.ensures.meaning in
    let many = as_many (gateway world) rows w.gates same in
    let lt : i < length w.gates = omega arith in
    let found = row_found (gateway world) rows w.gates i no_gate same c.loop-gate-test.true in
    let size = length_marked 64 c.loop-gate.regions in
    let few = (proper_world world).few_regions in
    let known = (All-get_or (KnownGate world) rows i no_gate c.loop-gate-test.true c.gates-gate-items.ensures.known).far_known in
    let e = c.cross.ensures in
    let inv = c.loop-gate.invariant in
    let step = crossed m w v s h i gate lt found (omega arith) s' h' e.regions e.waits in (
      widens_on m w v (region_marks c.args.regions.now) [] s h s' h' inv.0 step.0,
      All-more (Settled m v h' s') w.gates i gate lt (All-weaker (Settled m v h s) (Settled m v h' s') (step.0.settled []) (take i w.gates) inv.1) (subst (Settled m v h' s') found step.1),
    )

pub returns : goal.returns
returns g c =
    let world = c.args.self.now.world.now in
    let m = g.I.Inventory.meaning in
    let v = g.I.Inventory.value c.args.self.now.held in
    let many = as_many (gateway world) c.gates-gate-items.result.now (world_of world).gates c.gates-gate-items.ensures.meaning in
    let all = take_all c.loop-gate.gate-index (world_of world).gates (omega arith) in
    record {
      widens = c.loop-gate.invariant.0;
      settled = subst (λ gates. AllByRecursion (Settled m v (stacked c.loop-gate.waiting.stack) (region_marks c.loop-gate.regions)) gates) all c.loop-gate.invariant.1;
    }
