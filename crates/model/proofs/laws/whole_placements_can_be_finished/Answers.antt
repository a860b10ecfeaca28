use Rattle.model.proofs.Spheres.{whole_laws}
use Rattle.model.proofs.laws.whole_placements_can_be_finished.Goals as goal

pub returns : goal.returns
returns g c = whole_laws g.I.Inventory.meaning g.I.Inventory.lawful
