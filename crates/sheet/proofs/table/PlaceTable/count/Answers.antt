use Rattle.std.proofs.Common.{subst}
use Rattle.sheet.specs.Tables.{Sound}
use Rattle.sheet.proofs.Tables.{sound}
use Rattle.sheet.proofs.table.PlaceTable.count.Goals as goal

pub returns-clause-sound : goal.returns-clause-sound
returns-clause-sound c = subst Sound c.self.view_is (sound c.self.inside c.self.invariant)
