use Rattle.std.proofs.Common.{refl, ◌∙◌, arith}
use Rattle.scratch.proofs.Lent.{untouched, cleared}
use Rattle.scratch.proofs.lending.Lent.drop.Goals.{then-bytes-ge-WORK_MARKS, else-bytes-ge-WORK_MARKS}
use Rattle.scratch.proofs.lending.Lent.drop.Goals as goal

pub returns : goal.returns
returns c = elim c.if-bytes-ge-WORK_MARKS.branch [
  | then-bytes-ge-WORK_MARKS w ↦ w.bytes-is ∙ cleared c.args.self.bytes.now w.fill.new.self w.if-bytes-ge-WORK_MARKS.true w.fill.ensures.len (λ k d h. w.fill.ensures.clones k d h refl)
  | else-bytes-ge-WORK_MARKS w ↦ w.bytes-is ∙ untouched c.args.self.bytes.now (omega arith)
]
