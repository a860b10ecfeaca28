use Rattle.std.proofs.Common.{subst}
use Rattle.sheet.specs.Tables.{Sound}
use Rattle.sheet.proofs.Tables.{once_each, sound}
use Rattle.sheet.proofs.table.PlaceTable.placement.Goals as goal

pub returns-clause-once : goal.returns-clause-once
returns-clause-once c = once_each c.self.inside c.self.invariant

pub returns-clause-sound : goal.returns-clause-sound
returns-clause-sound c = subst Sound c.self.view_is (sound c.self.inside c.self.invariant)
