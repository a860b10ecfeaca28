use Rattle.std.proofs.Common.{◌+◌, ◌*◌, length, sym, ap, ◌∙◌}
use Rattle.model.specs.Placements.{Placement}
use Rattle.sheet.proofs.Writing.{length_file}
use Rattle.sheet.proofs.sheet.write.file_len.Goals as goal

pub returns-clause-size : goal.returns-clause-size
returns-clause-size c = ap (λ (p : Placement). 2 + 2 * length p) c.placement.ensures.records ∙ sym (length_file c.args.table.now)
