use Rattle.std.proofs.Common.{◌∙◌}
use Rattle.filling.proofs.Freshly.{laid_down}
use Rattle.filling.proofs.steps.lay.Goals as goal

pub returns : goal.returns
returns c = c.set.ensures.placement ∙ laid_down c.args.table.now c.args.place c.args.item c.requires.empty c.requires.small c.requires.unset
