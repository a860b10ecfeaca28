use Rattle.std.proofs.Common.{length}
use Rattle.sheet.proofs.Entries.{Halfway}
use Rattle.sheet.proofs.sheet.load.read_entries.Given as goal

abbrev pub invariant-loop-left : goal.invariant-loop-left
invariant-loop-left l = Halfway l.pool l.table l.left l.bytes

abbrev pub decreases-loop-left : goal.decreases-loop-left
decreases-loop-left l = length l.left
