use Rattle.std.proofs.Common.{ap, ◌∙◌}
use Rattle.world.specs.Worlds.{world_of}
use Rattle.model.specs.Fills.{candidates}
use Rattle.filling.specs.Steps.{empty_marked}
use Rattle.filling.proofs.attempt.Attempt.candidates.Goals as goal

pub returns : goal.returns
unfolding empty_marked candidates
returns g c = c.empty_marked.ensures ∙ ap (empty_marked (world_of c.args.self.now.world.now) c.args.self.now.table) c.gather.ensures
