use Rattle.std.proofs.Common.{None, sym, ◌∙◌}
use Rattle.std.proofs.lemmas.Simd.{splat_is_map}
use Rattle.world.specs.Worlds.{world_of}
use Rattle.sheet.proofs.table.PlaceTable.for_world.Goals as goal

pub returns-clause-placement : goal.returns-clause-placement
returns-clause-placement c = c.empty.ensures.placement ∙ splat_is_map (world_of c.args.world.now).places c.place_count.result None (sym c.place_count.ensures.count)
