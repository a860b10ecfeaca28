use Rattle.std.proofs.Common.{true, false, length, sym, ap, ◌∙◌, arith}
use Rattle.model.specs.Worlds.{with_items}
use Rattle.model.specs.Placements.{lying}
use Rattle.world.specs.Worlds.{world_of}
use Rattle.explore.specs.Marked.{places_in}
use Rattle.explore.proofs.Known.{proper_world}
use Rattle.explore.proofs.Marked.{length_places_in}
use Rattle.explore.proofs.Lying.{lying_step, lying_end, lying_own}
use Rattle.explore.proofs.player.Player.add_marked.Goals.{then-is_marked, else-is_marked}
use Rattle.explore.proofs.player.Player.add_marked.Goals as goal

pub loop-k-preserved : goal.loop-k-preserved
loop-k-preserved g c =
    let w = world_of c.args.self.now.world.now in
    let s = places_in w c.args.places.now in
    let inv = c.loop-k.invariant in
    let read = rw inv.0 at c.is_marked.ensures in
    let step = lying_step g.I.Inventory.meaning w (g.I.Inventory.value c.loop-k.self.held) c.own_records-own.result.now s c.loop-k.k in
    elim c.if-is_marked.branch [
      | then-is_marked x ↦ rw (x.self-is, x.add_lying.ensures.held, inv.0) (x.add_lying.ensures.world ∙ inv.0, step true (sym read ∙ x.if-is_marked.true) ∙ inv.1)
      | else-is_marked x ↦ rw x.self-is (inv.0, step false (sym read ∙ x.if-is_marked.false) ∙ inv.1)
    ]

pub returns-clause-held : goal.returns-clause-held
returns-clause-held g c =
    let m = g.I.Inventory.meaning in
    let world = c.args.self.now.world.now in
    let w = world_of world in
    let s = places_in w c.args.places.now in
    let size = length_places_in w c.args.places.now (proper_world world) in
    sym (ap (with_items m w (g.I.Inventory.value c.loop-k.self.held)) (lying_end c.own_records-own.result.now s c.loop-k.k (omega arith)))
    ∙ c.loop-k.invariant.1
    ∙ ap (λ p. with_items m w (g.I.Inventory.value c.args.self.now.held) (lying p s)) c.own_records-own.ensures
    ∙ ap (with_items m w (g.I.Inventory.value c.args.self.now.held)) (lying_own c.args.placement.now s (length w.places) (omega (arith, size)))
