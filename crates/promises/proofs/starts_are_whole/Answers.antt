use Rattle.promises.proofs.Starts.{starts_are_whole}
use Rattle.promises.proofs.starts_are_whole.Goals as goal

pub returns : goal.returns
returns g c = starts_are_whole g.I.Inventory.meaning g.I.Inventory.lawful
