use Rattle.inventory.proofs.Shown.{family_codes}
use Rattle.inventory.proofs.laws.kinds_are_their_familys_own.Goals as goal

pub returns : goal.returns
returns c = family_codes
