use Rattle.model.proofs.Limits.{proper_facts}
use Rattle.model.proofs.Reaches.{reach_law}
use Rattle.model.proofs.laws.reached_regions_are_least.Goals as goal

pub returns : goal.returns
returns g c w proper v = reach_law g.I.Inventory.meaning g.I.Inventory.lawful w v (proper_facts w proper)
