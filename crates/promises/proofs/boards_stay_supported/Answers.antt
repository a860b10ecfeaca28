use Rattle.promises.proofs.Steps.{boards_stay_supported}
use Rattle.promises.proofs.boards_stay_supported.Goals as goal

pub returns : goal.returns
returns g c = boards_stay_supported g.I.Inventory.meaning g.I.Inventory.lawful
