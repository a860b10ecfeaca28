use Rattle.std.proofs.Common.{◌≡◌, ◌+◌, ◌-◌, length, Some, sym, ap, ◌∙◌, subst, arith}
use Rattle.model.specs.Marks.{at, Sub, first}
use Rattle.model.specs.Worlds.{stocked}
use Rattle.model.specs.Placements.{round, gains, sphere}
use Rattle.world.specs.Worlds.{world_of, spot}
use Rattle.explore.specs.Marked.{places_in}
use Rattle.explore.proofs.Known.{proper_world, as_many}
use Rattle.explore.proofs.Marked.{at_places_in}
use Rattle.explore.proofs.Rounds.{round_none, round_done, round_below, first_here, first_on, first_end, first_settled, no_sphere}
use Rattle.explore.proofs.spheres.sphere.Goals as goal

pub returns-then-place-from : goal.returns-then-place-from
returns-then-place-from g c =
    let world = c.args.world.now in
    let w = world_of world in
    let many = as_many (spot world) c.places.result.now w.places c.places.ensures.meaning in
    no_sphere g.I.Inventory.meaning g.I.Inventory.lawful w c.args.placement.now c.args.place (omega arith)

pub loop-round-init : goal.loop-round-init
loop-round-init g c =
    let w = world_of c.args.world.now in
    let m = g.I.Inventory.meaning in
    let p = c.args.placement.now in
    let all : length w.places + 1 - 1 ≡ length w.places = omega arith in
    (round_none m w p _ c.clear.new.self (proper_world c.args.world.now) c.clear.ensures, ap (λ k. first k 1 (λ r. at (round m w p (stocked m w) r) c.args.place)) all)

pub gather_round-grew-requires : goal.gather_round-grew-requires
gather_round-grew-requires g c =
    let w = world_of c.args.world.now in
    let m = g.I.Inventory.meaning in
    let p = c.args.placement.now in
    let s = places_in w c.loop-round.places in
    let start = c.with_stock-start.ensures in
    rw start.world (subst (λ v. Sub s (gains m w p v s)) (sym start.held) (round_below m w p (stocked m w) g.I.Inventory.lawful s (c.loop-round.round - 1) c.loop-round.invariant.0))

pub returns-then-has : goal.returns-then-has
unfolding sphere
returns-then-has g c =
    let world = c.args.world.now in
    let w = world_of world in
    let m = g.I.Inventory.meaning in
    let p = c.args.placement.now in
    let v = stocked m w in
    let q = c.args.place in
    let k = c.loop-round.round in
    let start = c.with_stock-start.ensures in
    let many = as_many (spot world) c.places.result.now w.places c.places.ensures.meaning in
    let done = round_done m w p v _ c.loop-round.places c.gather_round-grew.new.places k q start.held (omega arith) c.loop-round.invariant.0 (rw start.world at c.gather_round-grew.ensures.gains) (omega arith) in
    ap Some (omega arith) ∙ first_here (length w.places) k (λ r. at (round m w p v r) q) (omega arith) c.loop-round.invariant.1 (done.1 ∙ sym c.if-has.ensures)

pub returns-then-not-grew : goal.returns-then-not-grew
unfolding sphere
returns-then-not-grew g c =
    let world = c.args.world.now in
    let w = world_of world in
    let m = g.I.Inventory.meaning in
    let p = c.args.placement.now in
    let v = stocked m w in
    let q = c.args.place in
    let k = c.loop-round.round in
    let start = c.with_stock-start.ensures in
    let many = as_many (spot world) c.places.result.now w.places c.places.ensures.meaning in
    let gained = rw start.world at c.gather_round-grew.ensures.gains in
    let same = rw start.world at c.if-not-grew.ensures.grew in
    first_settled m w p v (places_in w c.loop-round.places) (places_in w c.gather_round-grew.new.places) (length w.places) (k - 1) k q (omega arith) c.loop-round.invariant.0
    (gained ∙ ap (λ u. gains m w p u (places_in w c.loop-round.places)) start.held) same (at_places_in w c.gather_round-grew.new.places q (omega arith) ∙ sym c.if-has.ensures) c.loop-round.invariant.1

pub loop-round-preserved : goal.loop-round-preserved
loop-round-preserved g c =
    let world = c.args.world.now in
    let w = world_of world in
    let m = g.I.Inventory.meaning in
    let p = c.args.placement.now in
    let v = stocked m w in
    let q = c.args.place in
    let k = c.loop-round.round in
    let start = c.with_stock-start.ensures in
    let many = as_many (spot world) c.places.result.now w.places c.places.ensures.meaning in
    let done = round_done m w p v _ c.loop-round.places c.gather_round-grew.new.places k q start.held (omega arith) c.loop-round.invariant.0 (rw start.world at c.gather_round-grew.ensures.gains) (omega arith) in
    let one : k + 1 - 1 ≡ k = omega arith in
    (done.0 ∙ sym (ap (round m w p v) one), first_on (length w.places) k (λ r. at (round m w p v r) q) (omega arith) c.loop-round.invariant.1 (done.1 ∙ sym c.if-has.ensures))

pub returns-else-not-grew : goal.returns-else-not-grew
unfolding sphere
returns-else-not-grew g c =
    let world = c.args.world.now in
    let w = world_of world in
    let m = g.I.Inventory.meaning in
    let p = c.args.placement.now in
    let v = stocked m w in
    let q = c.args.place in
    let k = c.loop-round.round in
    let start = c.with_stock-start.ensures in
    let many = as_many (spot world) c.places.result.now w.places c.places.ensures.meaning in
    let done = round_done m w p v _ c.loop-round.places c.gather_round-grew.new.places k q start.held (omega arith) c.loop-round.invariant.0 (rw start.world at c.gather_round-grew.ensures.gains) (omega arith) in
    first_end (length w.places) k (λ r. at (round m w p v r) q) (omega arith) c.loop-round.invariant.1 (omega arith) (done.1 ∙ sym c.if-has.ensures)
