use Rattle.std.proofs.Common.{refl}
use Rattle.inventory.proofs.Shown.{five_tiers}
use Rattle.model.proofs.Examples.{examples}
use Rattle.sheet.proofs.Example.{sheet_examples}
use Rattle.examples.proofs.examples_hold.Goals as goal

pub returns : goal.returns
returns c = record { five_tiers = five_tiers; seed_one = (refl, refl); example_world = examples; example_sheet = sheet_examples }
