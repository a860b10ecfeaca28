use Rattle.std.proofs.Common.{set, ap, ◌∙◌, arith}
use lib.Seq.{take-set-lt}
use Rattle.model.specs.Placements.{Placement}
use Rattle.sheet.specs.Records.{may_lie}
use Rattle.sheet.proofs.Tables.{change_keeps, sound}
use Rattle.sheet.proofs.table.PlaceTable.put.Goals as goal

pub invariant_of-self : goal.invariant_of-self
invariant_of-self c =
    let t = c.self.inside in
    change_keeps t c.self.invariant c.args.place c.args.change t.count (omega arith) (omega arith) c.self.invariant.few (ap (λ (p : Placement). may_lie p c.args.change) c.self.view_is ∙ c.requires.fresh)

pub returns-clause-sound : goal.returns-clause-sound
returns-clause-sound c = sound _ (invariant_of-self c)

pub returns-clause-placement : goal.returns-clause-placement
returns-clause-placement c =
    let t = c.self.inside in
    take-set-lt t.count t.records c.args.place c.args.change (omega arith) ∙ ap (λ (p : Placement). set p c.args.place c.args.change) c.self.view_is
