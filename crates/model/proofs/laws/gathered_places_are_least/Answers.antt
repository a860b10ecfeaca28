use Rattle.model.proofs.Grows.{gather_law}
use Rattle.model.proofs.laws.gathered_places_are_least.Goals as goal

pub returns : goal.returns
returns g c = gather_law g.I.Inventory.meaning g.I.Inventory.lawful
