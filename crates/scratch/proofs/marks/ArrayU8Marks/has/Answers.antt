use Rattle.std.proofs.Common.{◌∙◌}
use Rattle.std.proofs.lemmas.Bool.{le-ltb}
use Rattle.scratch.proofs.Rows.{read, read_past}
use Rattle.scratch.proofs.marks.ArrayU8Marks.has.Goals as goal

pub returns-then-number : goal.returns-then-number
returns-then-number g c = read g.row.N c.args.self.now c.args.number c.if-number.true

pub returns-else-number : goal.returns-else-number
returns-else-number g c = le-ltb c.args.number g.row.N c.if-number.false ∙ read_past g.row.N c.args.self.now c.args.number c.if-number.false
