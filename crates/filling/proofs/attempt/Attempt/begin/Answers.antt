use Rattle.std.proofs.Common.{sym, subst}
use Rattle.world.specs.Worlds.{world_of}
use Rattle.explore.proofs.Known.{proper_world}
use Rattle.filling.specs.Steps.{Fresh}
use Rattle.filling.proofs.Freshly.{fresh_unset}
use Rattle.filling.proofs.attempt.Attempt.begin.Goals as goal

pub invariant_of-result : goal.invariant_of-result
invariant_of-result c =
    record { fresh = subst (Fresh c.args.table) (sym c.unset_items-left.ensures) (fresh_unset (world_of c.args.world.now) c.args.table (proper_world c.args.world.now).few_items) }
