use Rattle.world.proofs.Tables.{is_proper}
use Rattle.world.proofs.world.World.region_count.Goals as goal

pub returns-clause-is_proper : goal.returns-clause-is_proper
returns-clause-is_proper c = is_proper c.args.self.now
