use Rattle.std.proofs.Common.{length, ap, ◌∙◌, eqb, rules, arith}
use borrow.Author.Tests.{tests}
use Rattle.std.proofs.lemmas.Iterator.{YieldsList-from_slice}
use Rattle.std.proofs.lemmas.Iterator.Consumers.{YieldsList-from_enumerate}
use Rattle.std.proofs.lemmas.Iterator.Search.{any_from_yields_List}
use Rattle.model.specs.Marks.{any}
use Rattle.model.specs.Placements.{lying}
use Rattle.world.specs.Worlds.{world_of}
use Rattle.explore.specs.Marked.{places_in}
use Rattle.explore.proofs.Known.{proper_world}
use Rattle.explore.proofs.Marked.{length_places_in}
use Rattle.explore.proofs.Lying.{lies, lies_in, lying_own}
use Rattle.explore.proofs.whole.lies_marked.Goals as goal

pub returns : goal.returns
returns c =
    let w = world_of c.args.world.now in
    let own = c.own_records.result.now in
    let s = places_in w c.args.places.now in
    let size = length_places_in w c.args.places.now (proper_world c.args.world.now) in
    any_from_yields_List (lies c.args.item s) _ _ _ c.any.ensures.ran (YieldsList-from_enumerate (YieldsList-from_slice own cc) (cc)) (λ x b q k. search (rules, tests))
    ∙ lies_in c.args.item s own 0
    ∙ ap (λ p. any (eqb c.args.item) (lying p s)) c.own_records.ensures
    ∙ ap (any (eqb c.args.item)) (lying_own c.args.placement.now s (length w.places) (omega (arith, size)))
