use Rattle.std.proofs.Common.{◌≤◌, IsSome, sym, subst}
use Rattle.world.specs.declared.draft.Draft.{Draft}
use Rattle.world.specs.Worlds.{regions_of}
use Rattle.world.proofs.Finished.{finished}
use Rattle.world.proofs.world.World.adopt.Goals as goal

pub invariant_of-self : goal.invariant_of-self
invariant_of-self c =
    let f = finished c.args.draft.now (sym c.if-not-is_complete.ensures) in
    let e = sym c.swap.ensures.x_after in
    record {
      some_region = subst (λ (d : Draft). 1 ≤ (regions_of d)) e f.0;
      goal_set = subst (λ (d : Draft). IsSome d.goal) e f.1;
    }
