use Rattle.promises.proofs.Starts.{runs_never_stall}
use Rattle.promises.proofs.runs_never_stall.Goals as goal

pub returns : goal.returns
returns g c = runs_never_stall g.I.Inventory.meaning g.I.Inventory.lawful
