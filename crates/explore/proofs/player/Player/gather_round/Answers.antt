use Rattle.std.proofs.Common.{sym, ◌∙◌, subst}
use Rattle.model.specs.Marks.{In}
use Rattle.world.specs.Worlds.{world_of}
use Rattle.explore.specs.Marked.{places_in}
use Rattle.explore.proofs.Rounds.{gains_are}
use Rattle.explore.proofs.player.Player.gather_round.Goals as goal

pub open_places-requires : goal.open_places-requires
open_places-requires g c =
    let w = world_of c.args.self.now.world.now in
    let e = c.add_marked.ensures.world in
    let are = gains_are g.I.Inventory.meaning w c.args.placement.now (g.I.Inventory.value c.args.self.now.held) _ (places_in w c.args.places.now) c.add_marked.ensures.held in
    rw e (record { reached = rw e at c.mark_reached.ensures; below = λ k t. subst (λ x. In x k) (sym are) (c.requires k t) })

pub returns-clause-gains : goal.returns-clause-gains
returns-clause-gains g c =
    let w = world_of c.args.self.now.world.now in
    let opens = rw c.add_marked.ensures.world at c.open_places.ensures.opens in
    opens ∙ gains_are g.I.Inventory.meaning w c.args.placement.now (g.I.Inventory.value c.args.self.now.held) _ (places_in w c.args.places.now) c.add_marked.ensures.held
