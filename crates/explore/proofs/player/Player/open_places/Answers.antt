use Rattle.std.proofs.Common.{sym, ◌∙◌, arith}
use Rattle.model.specs.Marks.{at}
use Rattle.model.specs.Worlds.{opens}
use Rattle.model.proofs.Grows.{length_opens}
use Rattle.world.specs.Worlds.{world_of, spot}
use Rattle.explore.specs.Marked.{places_in}
use Rattle.explore.proofs.Known.{proper_world, as_many}
use Rattle.explore.proofs.Marked.{length_places_in, places_in_set}
use Rattle.explore.proofs.Opened.{read_open, not_newly, is_newly, opening_none, opening_skip, opening_more, opening_all}
use Rattle.explore.proofs.player.Player.open_places.Goals.{then-opens_now, else-opens_now}
use Rattle.explore.proofs.player.Player.open_places.Goals as goal

pub loop-k-init : goal.loop-k-init
loop-k-init g c =
    let w = world_of c.args.self.now.world.now in
    let s = places_in w c.args.places.now in
    opening_none _ s s (length_places_in w c.args.places.now (proper_world c.args.self.now.world.now) ∙ sym (length_opens _ g.I.Inventory.lawful w _)) c.requires.below

pub loop-k-preserved : goal.loop-k-preserved
loop-k-preserved g c =
    let world = c.args.self.now.world.now in
    let w = world_of world in
    let m = g.I.Inventory.meaning in
    let v = g.I.Inventory.value c.args.self.now.held in
    let k = c.loop-k.k in
    let o = opens m w v in
    let s₀ = places_in w c.args.places.now in
    let s = places_in w c.loop-k.places in
    let inv = c.loop-k.invariant in
    let rows = c.places-place-items.ensures in
    let read = read_open world c.places-place-items.result.now rows.meaning k c.loop-k-test.true m v c.args.regions.now c.loop-k.places c.opens_now.result c.opens_now.ensures rows.known c.requires.reached in
    elim c.if-opens_now.branch [
      | then-opens_now w ↦ (let new = is_newly (at s k) (at o k) (sym read ∙ w.if-opens_now.true) in
          rw (w.places-is, w.grew-is, places_in_set (world_of world) c.loop-k.places w.mark.new.self k w.mark.ensures) (opening_more o s₀ s k c.loop-k.grew inv new.0 new.1))
      | else-opens_now w ↦ rw (w.places-is, w.grew-is) (opening_skip o s₀ s k c.loop-k.grew inv (not_newly (at s k) (at o k) (sym read ∙ w.if-opens_now.false)))
    ]

pub returns-clause-opens : goal.returns-clause-opens
returns-clause-opens g c =
    let world = c.args.self.now.world.now in
    let w = world_of world in
    let m = g.I.Inventory.meaning in
    let v = g.I.Inventory.value c.args.self.now.held in
    let many = as_many (spot world) c.places-place-items.result.now w.places c.places-place-items.ensures.meaning in
    let size = length_opens m g.I.Inventory.lawful w v in
    opening_all (opens m w v) (places_in w c.args.places.now) (places_in w c.loop-k.places) c.loop-k.k c.loop-k.grew c.loop-k.invariant (omega arith)
