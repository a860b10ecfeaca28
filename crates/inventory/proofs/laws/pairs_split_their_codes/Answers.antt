use Rattle.inventory.proofs.Shown.{split_codes}
use Rattle.inventory.proofs.laws.pairs_split_their_codes.Goals as goal

pub returns : goal.returns
returns g c = split_codes g.L.Inventory.meaning g.R.Inventory.meaning
