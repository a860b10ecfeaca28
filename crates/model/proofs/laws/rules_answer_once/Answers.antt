use Rattle.inventory.specs.Meaning.{held}
use Rattle.model.proofs.Reading.{rule_law}
use Rattle.model.proofs.laws.rules_answer_once.Goals as goal

pub returns : goal.returns
returns g c v = rule_law (held g.I.Inventory.meaning v)
