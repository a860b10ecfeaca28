use Rattle.promises.proofs.Fills.{fills_reach_each_whole}
use Rattle.promises.proofs.fills_reach_each_whole.Goals as goal

pub returns : goal.returns
returns g c = fills_reach_each_whole g.I.Inventory.meaning g.I.Inventory.lawful
