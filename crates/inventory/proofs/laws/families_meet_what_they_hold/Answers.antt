use Rattle.inventory.specs.Capped.{up_to}
use Rattle.inventory.proofs.Shown.{met}
use Rattle.inventory.proofs.laws.families_meet_what_they_hold.Goals as goal

pub returns : goal.returns
returns c = record { counts = met (up_to 999); tiers = met (up_to 4) }
