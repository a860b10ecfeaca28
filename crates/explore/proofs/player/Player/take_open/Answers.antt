use Rattle.std.proofs.Common.{◌≡◌, ◌<◌, ◌&&◌, length, sym, ◌∙◌, subst, arith}
use Rattle.std.proofs.ByRecursion.{All-get_or}
use Rattle.std.proofs.lemmas.Bool.{and_parts}
use Rattle.std.proofs.lemmas.Float.{T_from_true}
use Rattle.inventory.specs.Meaning.{held}
use Rattle.scratch.specs.Marks.{region_marks}
use Rattle.model.specs.Marks.{at}
use Rattle.model.specs.Rules.{reads}
use Rattle.model.proofs.Sets.{and_from}
use Rattle.world.specs.Worlds.{world_of, spot, KnownPlace}
use Rattle.explore.specs.Marked.{places_in}
use Rattle.explore.specs.Gathering.{Quiet}
use Rattle.explore.proofs.Known.{no_place, proper_world, as_many}
use Rattle.explore.proofs.Marked.{length_places_in, places_in_set}
use Rattle.explore.proofs.Opened.{row_place, is_place, place_found, read_marks, not_newly, is_newly}
use Rattle.explore.proofs.Eagerly.{ahead_more, quiet_more, grew_more}
use Rattle.explore.proofs.player.Player.take_open.Goals.{then-opens_now, else-opens_now}
use Rattle.explore.proofs.player.Player.take_open.Goals as goal

pub opens_now-requires : goal.opens_now-requires
opens_now-requires g c =
    rw c.loop-k.invariant.0 (All-get_or (KnownPlace c.args.self.now.world.now) c.places-place-items.result.now c.loop-k.k no_place c.loop-k-test.true c.places-place-items.ensures.known)

pub loop-k-preserved : goal.loop-k-preserved
loop-k-preserved g c =
    let world = c.args.self.now.world.now in
    let w = world_of world in
    let m = g.I.Inventory.meaning in
    let p = c.args.placement.now in
    let u₀ = g.I.Inventory.value c.args.self.now.held in
    let u = g.I.Inventory.value c.loop-k.self.held in
    let rows = c.places-place-items.result.now in
    let same = c.places-place-items.ensures.meaning in
    let h = c.loop-k-test.true in
    let k = c.loop-k.k in
    let r = region_marks c.args.regions.now in
    let s₀ = places_in w c.args.places.now in
    let s = places_in w c.loop-k.places in
    let inv = c.loop-k.invariant in
    let q = row_place world rows k in
    let lt = is_place world rows same k h in
    let found = place_found world rows same k h in
    let read = read_marks world rows same k h m u c.args.regions.now c.loop-k.places c.opens_now.result (rw inv.0 at c.opens_now.ensures) in
    elim c.if-opens_now.branch [
      | then-opens_now x ↦ (let new = is_newly (at s k) (at r q.region && reads (held m u) q.rule) (sym read ∙ x.if-opens_now.true) in
          let met = and_parts (at r q.region) _ new.1 in
          let size = length_places_in w c.loop-k.places (proper_world world) in
          let ls : k < length s = omega arith in
          rw (x.self-is, x.places-is, x.grew-is, places_in_set w c.loop-k.places x.mark.new.self k x.mark.ensures) (
            x.add_lying.ensures.world ∙ inv.0,
            λ v a. ahead_more m g.I.Inventory.lawful w p v r s u (inv.1 v a) k q (g.I.Inventory.value x.add_lying.new.self.held) lt ls found (T_from_true _ met.0) (T_from_true _ met.1) new.0
                (rw (inv.0, x.item_at.ensures) at x.add_lying.ensures.held),
            grew_more c.loop-k.grew s₀ s k inv.2 ls new.0,
            tt,
          ))
      | else-opens_now x ↦ rw (x.self-is, x.places-is, x.grew-is) (
        inv.0,
        inv.1,
        inv.2,
        quiet_more m w u₀ u r s k c.loop-k.grew inv.3 q lt found
            (λ near met. not_newly (at s k) (at r q.region && reads (held m u) q.rule) (sym read ∙ x.if-opens_now.false) (and_from (at r q.region) _ near met)),
      )
    ]

pub returns-clause-quiet : goal.returns-clause-quiet
returns-clause-quiet g c =
    let world = c.args.self.now.world.now in
    let w = world_of world in
    let many = as_many (spot world) c.places-place-items.result.now w.places c.places-place-items.ensures.meaning in
    let all : c.loop-k.k ≡ length w.places = omega (arith, c.loop-k.auto.k-end, c.loop-k-test.false) in
    subst (Quiet g.I.Inventory.meaning w c.loop-k.grew (g.I.Inventory.value c.args.self.now.held) (g.I.Inventory.value c.loop-k.self.held) (region_marks c.args.regions.now) (places_in w c.loop-k.places)) all c.loop-k.invariant.3
