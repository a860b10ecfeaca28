use Rattle.model.specs.Worlds.{finishable}
use Rattle.explore.proofs.places.mark_finishable.Goals as goal

pub returns : goal.returns
unfolding finishable
returns g c = cc
