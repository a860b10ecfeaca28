use Rattle.std.proofs.Common.{◌≡◌, ◌<◌, ◌≤◌, length, get_or, Some, sym, ap, subst, arith}
use Rattle.std.proofs.ByRecursion.{All-get_or}
use Rattle.scratch.specs.Held.{held as stacked}
use Rattle.scratch.specs.Marks.{region_marks}
use Rattle.scratch.proofs.Rows.{length_marked}
use Rattle.world.specs.Rows.{last_leaving}
use Rattle.world.specs.Worlds.{world_of, gate_rows, gateway, rule_at, KnownGate}
use Rattle.explore.proofs.Known.{no_gate, proper_world, row_found, as_many}
use Rattle.explore.proofs.Sweeping.{widens_none, widens_on, crossed}
use Rattle.explore.proofs.Chains.{gates_to, Leaves, Past, leaving_le, leaving_near, chain_start, chain_next, past_next, past_all}
use Rattle.explore.proofs.player.Player.sweep.Goals as goal

pub loop-next-init : goal.loop-next-init
loop-next-init g c =
    let world = c.args.self.now.world.now in
    let m = g.I.Inventory.meaning in
    let v = g.I.Inventory.value c.args.self.now.held in
    let s = region_marks c.args.regions.now in
    let h = stacked c.args.waiting.now.stack in
    let gates = c.gates-gates.ensures in
    let first = rw c.from.ensures at c.last_gate-next.ensures in
    let chain = chain_start m world v c.gates-gates.result.now gates.meaning (proper_world world) (gate_rows world) gates.rows c.args.near c.last_gate-next.result h s first.known first.unknown in
    (widens_none m (world_of world) v s h, chain.0, chain.1, chain.2)

-- the gate that is crossed is one of the world's, and its row names the next
inside : (g : _) (c : goal.After-cross g) → c.in-Some.k < length c.gates-gates.result.now
inside g c = let few : gates_to (Some c.in-Some.k) ≤ length c.gates-gates.result.now = subst (λ o. gates_to o ≤ length c.gates-gates.result.now) c.in-Some.is c.loop-next.invariant.1 in omega arith

next : (g : _) (c : goal.After-cross g) → (get_or c.gates-gates.result.now c.in-Some.k no_gate).earlier ≡ last_leaving c.gates-gates.result.now c.args.near c.in-Some.k
next g c =
    chain_next g.I.Inventory.meaning c.args.self.now.world.now (g.I.Inventory.value c.args.self.now.held) c.gates-gates.result.now c.gates-gates.ensures.meaning c.gates-gates.ensures.chained c.args.near c.in-Some.k
    (inside g c) (subst (Leaves c.gates-gates.result.now c.args.near) c.in-Some.is c.loop-next.invariant.2)

pub loop-next-smaller : goal.loop-next-smaller
loop-next-smaller g c =
    let below = leaving_le c.gates-gates.result.now c.args.near c.in-Some.k in
    let here = ap gates_to c.in-Some.is in
    let to = ap gates_to (next g c) in
    omega arith

pub loop-next-preserved : goal.loop-next-preserved
unfolding gateway rule_at
loop-next-preserved g c =
    let world = c.args.self.now.world.now in
    let m = g.I.Inventory.meaning in
    let w = world_of world in
    let v = g.I.Inventory.value c.args.self.now.held in
    let rows = c.gates-gates.result.now in
    let x = c.args.near in
    let k = c.in-Some.k in
    let s = region_marks c.loop-next.regions in
    let h = stacked c.loop-next.waiting.stack in
    let s' = region_marks c.cross.new.regions in
    let h' = stacked c.cross.new.waiting.stack in
    let row = get_or rows k no_gate in
    let gate = gateway world row in
    let same = c.gates-gates.ensures.meaning in
    let many = as_many (gateway world) rows w.gates same in
    let inv = c.loop-next.invariant in
    let within = inside g c in
    let lt : k < length w.gates = omega arith in
    let found = row_found (gateway world) rows w.gates k no_gate same within in
    let size = length_marked 64 c.loop-next.regions in
    let few = (proper_world world).few_regions in
    let known = (All-get_or (KnownGate world) rows k no_gate within c.gates-gates.ensures.known).far_known in
    let e = c.cross.ensures in
    let step = crossed m w v s h k gate lt found (omega arith) s' h' e.regions e.waits in
    let to = next g c in
    let below = leaving_le rows x k in
    let here = ap gates_to to in (
      widens_on m w v (region_marks c.args.regions.now) (stacked c.args.waiting.now.stack) s h s' h' inv.0 step.0,
      omega arith,
      subst (Leaves rows x) (sym to) (leaving_near rows x k),
      past_next m world v rows same x k row.earlier s h s' h' gate lt found to (subst (λ o. Past m w v x (gates_to o) h s) c.in-Some.is inv.3) step.0 step.1,
    )

pub returns-clause-left : goal.returns-clause-left
returns-clause-left g c =
    let world = c.args.self.now.world.now in
    let m = g.I.Inventory.meaning in
    let v = g.I.Inventory.value c.args.self.now.held in
    let s = region_marks c.loop-next.regions in
    let h = stacked c.loop-next.waiting.stack in
    past_all m world v c.gates-gates.result.now c.gates-gates.ensures.meaning c.args.near h s (subst (λ o. Past m (world_of world) v c.args.near (gates_to o) h s) c.in_default.is c.loop-next.invariant.3)
