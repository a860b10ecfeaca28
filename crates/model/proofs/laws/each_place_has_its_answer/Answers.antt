use Rattle.model.proofs.Reaches.{table_laws}
use Rattle.model.proofs.laws.each_place_has_its_answer.Goals as goal

pub returns : goal.returns
returns g c = table_laws g.I.Inventory.meaning g.I.Inventory.lawful
