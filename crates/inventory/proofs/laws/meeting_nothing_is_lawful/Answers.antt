use Rattle.inventory.proofs.Shown.{meets_nothing}
use Rattle.inventory.proofs.laws.meeting_nothing_is_lawful.Goals as goal

pub returns : goal.returns
returns c = meets_nothing
