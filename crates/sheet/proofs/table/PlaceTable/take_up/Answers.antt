use Rattle.std.proofs.Common.{◌≡◌, Some, ◌∙◌, ap, rules}
use Rattle.model.specs.Placements.{item_at}
use Rattle.sheet.proofs.table.PlaceTable.take_up.Goals as goal

pub returns-clause-small : goal.returns-clause-small
returns-clause-small c i e =
    let found : item_at c.args.self.now c.args.place ≡ Some c.in_ok-item.item = search rules in
    let same : c.in_ok-item.item ≡ i = cc in
    c.placement.ensures.sound.small c.args.place i (found ∙ ap Some same)
