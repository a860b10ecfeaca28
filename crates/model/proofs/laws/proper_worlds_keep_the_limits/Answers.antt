use Rattle.model.proofs.Limits.{proper_laws}
use Rattle.model.proofs.laws.proper_worlds_keep_the_limits.Goals as goal

pub returns : goal.returns
returns c = proper_laws
