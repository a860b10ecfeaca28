use Rattle.model.proofs.Spheres.{sphere_law}
use Rattle.model.proofs.laws.spheres_are_first_rounds.Goals as goal

pub returns : goal.returns
returns g c = sphere_law g.I.Inventory.meaning g.I.Inventory.lawful
