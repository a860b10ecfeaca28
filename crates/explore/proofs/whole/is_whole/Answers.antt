use Rattle.std.proofs.Common.{length, ◌∙◌, refl, arith, rules}
use borrow.Author.Tests.{tests}
use Rattle.std.proofs.lemmas.Iterator.{YieldsList-from_range}
use Rattle.std.proofs.lemmas.Iterator.Search.{all_from_yields_List}
use Rattle.world.specs.Worlds.{world_of}
use Rattle.explore.specs.Marked.{places_in}
use Rattle.explore.proofs.Everywhere.{there, whole_is}
use Rattle.explore.proofs.whole.is_whole.Goals as goal

pub returns : goal.returns
returns g c =
    let w = world_of c.args.world.now in
    let p = c.args.placement.now in
    let s = places_in w c.mark_gathered.new.places in
    let n = length c.pool.result.now in
    all_from_yields_List (there p s) _ _ _ c.all.ensures.ran (YieldsList-from_range 0 n n refl (omega arith)) (λ x b q k. search (rules, tests))
    ∙ whole_is g.I.Inventory.meaning w p (g.I.Inventory.value c.with_stock.result.held) s c.pool.result.now c.with_stock.ensures.held (rw c.with_stock.ensures.world at c.mark_gathered.ensures.places) c.pool.ensures.codes
