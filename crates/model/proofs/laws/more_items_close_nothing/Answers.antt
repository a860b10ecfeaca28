use Rattle.model.proofs.Grows.{growth_laws}
use Rattle.model.proofs.laws.more_items_close_nothing.Goals as goal

pub returns : goal.returns
returns g c = growth_laws g.I.Inventory.meaning g.I.Inventory.lawful
