use Rattle.std.proofs.Common.{◌≡◌, ◌+◌, ◌*◌, ◌++◌, drop}
use Rattle.sheet.proofs.Writing.{front}
use Rattle.sheet.proofs.sheet.write.put_file.Given as goal

abbrev pub invariant-loop-place : goal.invariant-loop-place
invariant-loop-place l = l.buffer ≡ front l.placement l.place ++ drop (2 + 2 * l.place) l.fn.buffer
