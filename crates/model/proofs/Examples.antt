-- The example world, by computing.
use Rattle.std.proofs.Common.{refl}
use Rattle.model.specs.Worlds.{widened, reached, opens}
use Rattle.model.specs.Proper.{proper}
use Rattle.model.specs.Placements.{gains, round, gathered, sphere, whole}
use Rattle.model.specs.Boards.{is_set, unset, loose, goal_met}
use Rattle.model.specs.Fills.{candidates}
use Rattle.model.specs.Example.{WorldExamples}

pub examples : WorldExamples
unfolding proper goal_met is_set unset loose candidates whole sphere gathered round gains opens reached widened
examples = record {
  is_proper = tt;
  with_nothing = refl;
  with_coin = refl;
  with_lamp_and_coin = refl;
  only_well = refl;
  well_sphere = refl;
  shed_sphere = refl;
  vault_sphere = refl;
  makes = refl;
  lifts = refl;
  vault_refused = refl;
  shed_accepted = refl;
  not_started = refl;
  starts = refl;
  fills = refl;
  fails = refl;
}
