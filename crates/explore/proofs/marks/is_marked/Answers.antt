use Rattle.std.proofs.Common.{false, length, sym, ◌∙◌, arith, length-take}
use Rattle.std.proofs.lemmas.List.{get_or_past}
use Rattle.std.proofs.lemmas.Bool.{le-ltb}
use Rattle.scratch.specs.Marks.{place_marks}
use Rattle.world.specs.Worlds.{world_of, spot}
use Rattle.explore.specs.Marked.{places_in}
use Rattle.explore.proofs.Known.{as_many}
use Rattle.explore.proofs.Marked.{at_places_in}
use Rattle.explore.proofs.marks.is_marked.Goals as goal

pub returns-then-place-places : goal.returns-then-place-places
returns-then-place-places c =
    let w = world_of c.args.world.now in
    let many = as_many (spot c.args.world.now) c.places.result.now w.places c.places.ensures.meaning in
    c.has.ensures ∙ sym (at_places_in w c.args.places.now c.args.place (omega (arith, c.if-place-places.true)))

pub returns-else-place-places : goal.returns-else-place-places
unfolding places_in
returns-else-place-places c =
    let w = world_of c.args.world.now in
    let many = as_many (spot c.args.world.now) c.places.result.now w.places c.places.ensures.meaning in
    let few = length-take (length w.places) (place_marks c.args.places.now) in
    le-ltb _ _ c.if-place-places.false ∙ sym (get_or_past (places_in w c.args.places.now) c.args.place false (omega (arith, few, c.if-place-places.false)))
