use Rattle.std.proofs.Common.{None}
use Rattle.std.proofs.lemmas.List.{take-replicate}
use Rattle.sheet.proofs.Tables.{none_keep, sound}
use Rattle.sheet.proofs.table.makes.empty.Goals as goal

pub invariant_of-result : goal.invariant_of-result
invariant_of-result c = none_keep c.args.count c.requires

pub returns-clause-placement : goal.returns-clause-placement
returns-clause-placement c = take-replicate c.args.count 256 None c.requires

pub returns-clause-sound : goal.returns-clause-sound
returns-clause-sound c = sound _ (none_keep c.args.count c.requires)
