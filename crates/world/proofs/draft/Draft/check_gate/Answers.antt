use Rattle.std.proofs.Common.{sym, refl, ap, ◌∙◌}
use Rattle.world.specs.Building.{told}
use Rattle.world.proofs.Adding.{gate_decided}
use Rattle.world.proofs.draft.Draft.check_gate.Goals as goal

pub returns : goal.returns
returns c =
    c.check_row.ensures
    ∙ ap told (gate_decided c.args.self.now c.args.rule.now c.args.near c.args.far _ refl (sym c.if-not-has_regions.ensures))
