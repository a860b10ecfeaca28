use Rattle.std.proofs.Common.{length, get_or, refl, ap, ◌∙◌}
use Rattle.std.proofs.lemmas.List.FromFn.{fill_by_all}
use Rattle.inventory.specs.Meaning.{with_codes}
use Rattle.world.specs.Worlds.{world_of}
use Rattle.explore.proofs.player.Player.add_pool.Goals as goal

pub returns-clause-held : goal.returns-clause-held
returns-clause-held g c =
    let pool = (world_of c.args.self.now.world.now).pool in
    let each = fill_by_all (λ i. get_or pool i 0) pool (length pool) 0 refl (λ k h. refl) in
    c.add_codes.ensures ∙ ap (with_codes g.I.Inventory.meaning (g.I.Inventory.value c.args.self.now.held)) (c.pool.ensures.codes ∙ each)
