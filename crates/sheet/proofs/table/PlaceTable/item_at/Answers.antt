use Rattle.std.proofs.Common.{rules}
use Rattle.sheet.specs.Tables.{Sound}
use Rattle.sheet.proofs.table.PlaceTable.item_at.Goals as goal

pub returns-clause-small : goal.returns-clause-small
returns-clause-small c i e =
    let sound : Sound c.args.self.now = search rules in
    sound.small c.args.place i (search rules)
