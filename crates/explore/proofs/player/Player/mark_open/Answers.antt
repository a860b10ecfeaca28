use Rattle.std.proofs.Common.{length, sym, subst}
use Rattle.model.specs.Marks.{Sub}
use Rattle.model.specs.Worlds.{opens}
use Rattle.world.specs.Worlds.{world_of}
use Rattle.explore.proofs.Known.{proper_world}
use Rattle.explore.proofs.Counting.{none_in}
use Rattle.explore.proofs.Marked.{no_places_in}
use Rattle.explore.proofs.player.Player.mark_open.Goals as goal

pub open_places-requires-clause-below : goal.open_places-requires-clause-below
open_places-requires-clause-below g c =
    let world = c.args.self.now.world.now in
    let w = world_of world in
    subst (λ s. Sub s (opens g.I.Inventory.meaning w (g.I.Inventory.value c.args.self.now.held))) (sym (no_places_in w c.clear.new.self (proper_world world) c.clear.ensures)) (λ k t. absurd (none_in (length w.places) k t))
