use Rattle.promises.proofs.Starts.{takes_are_kept}
use Rattle.promises.proofs.takes_are_kept.Goals as goal

pub returns : goal.returns
returns g c = takes_are_kept g.I.Inventory.meaning g.I.Inventory.lawful
