use Rattle.std.proofs.Common.{◌+◌, ap, ◌∙◌, arith, rules}
use Rattle.model.specs.Placements.{Placement}
use Rattle.sheet.specs.Records.{may_lie}
use Rattle.sheet.proofs.Tables.{change_keeps}
use Rattle.sheet.proofs.table.PlaceTable.push.Goals as goal

pub invariant_of-self : goal.invariant_of-self
invariant_of-self c =
    let t = c.self.inside in
    change_keeps t c.self.invariant t.count c.args.last (t.count + 1) (omega arith) (omega arith) (search rules) (ap (λ (p : Placement). may_lie p c.args.last) c.self.view_is ∙ c.requires.fresh)
