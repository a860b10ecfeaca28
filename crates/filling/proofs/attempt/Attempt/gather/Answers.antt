use Rattle.std.proofs.Common.{◌+◌, drop, sym, ap, ◌∙◌}
use Rattle.std.proofs.lemmas.List.{at_drop_more, at_drop_all}
use Rattle.model.specs.Placements.{gathered}
use Rattle.model.specs.Worlds.{stocked, with_items}
use Rattle.world.specs.Worlds.{world_of}
use Rattle.filling.proofs.attempt.Attempt.gather.Goals as goal

pub loop-item-preserved : goal.loop-item-preserved
loop-item-preserved g c =
    let m = g.I.Inventory.meaning in
    let w = world_of c.args.self.now.world.now in
    let items = c.as_slice-item-items.result.now in
    let i = c.loop-item.item-index in
    let inv = c.loop-item.invariant in
    let held = rw (inv.0 ∙ c.with_stock-player.ensures.world) at c.add_item.ensures.held in (
      c.add_item.ensures.world ∙ inv.0,
      ap (λ v. with_items m w v (drop (i + 1) items)) held ∙ sym (at_drop_more (with_items m w (g.I.Inventory.value c.loop-item.player.held)) items i 0 c.loop-item-test.true) ∙ inv.1,
    )

pub returns : goal.returns
returns g c =
    let m = g.I.Inventory.meaning in
    let w = world_of c.args.self.now.world.now in
    let inv = c.loop-item.invariant in
    let marked = rw (inv.0 ∙ c.with_stock-player.ensures.world) at c.mark_gathered.ensures.places in
    let held = sym (at_drop_all (with_items m w (g.I.Inventory.value c.loop-item.player.held)) c.as_slice-item-items.result.now c.loop-item.item-index c.loop-item-test.false) ∙ inv.1 in
    marked
    ∙ ap (gathered m w c.placement.result.now) (held ∙ ap (λ v. with_items m w v c.as_slice-item-items.result.now) c.with_stock-player.ensures.held ∙ ap (with_items m w (stocked m w)) c.as_slice-item-items.ensures.value)
    ∙ ap (λ p. gathered m w p (with_items m w (stocked m w) c.args.self.now.left.items)) c.placement.ensures.records
