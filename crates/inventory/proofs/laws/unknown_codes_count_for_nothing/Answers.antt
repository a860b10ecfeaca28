use Rattle.inventory.proofs.Shown.{unknown_codes}
use Rattle.inventory.proofs.laws.unknown_codes_count_for_nothing.Goals as goal

pub returns : goal.returns
returns c = unknown_codes
