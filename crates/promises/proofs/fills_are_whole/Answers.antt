use Rattle.promises.proofs.Fills.{fills_are_whole}
use Rattle.promises.proofs.fills_are_whole.Goals as goal

pub returns : goal.returns
returns g c = fills_are_whole g.I.Inventory.meaning g.I.Inventory.lawful g.S.DrawSource.draws g.S.DrawSource.fair
