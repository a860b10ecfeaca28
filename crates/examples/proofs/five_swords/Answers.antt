use Rattle.std.proofs.Common.{ap, ◌∙◌, arith}
use Rattle.inventory.specs.Capped.{tiers}
use Rattle.inventory.proofs.Shown.{five_tiers}
use Rattle.examples.proofs.five_swords.Goals as goal

pub returns : goal.returns
returns c = c.level.ensures ∙ ap (λ (v : tiers.Value). (v 0).0) c.several.ensures ∙ five_tiers 0 (omega arith)
