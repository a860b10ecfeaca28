use Rattle.std.proofs.Common.{refl, ap, ◌∙◌, arith}
use Rattle.world.specs.Building.{told}
use Rattle.world.proofs.Adding.{place_decided}
use Rattle.world.proofs.draft.Draft.check_place.Goals as goal

pub returns : goal.returns
returns c =
    c.check_row.ensures
    ∙ ap told (place_decided c.args.self.now c.args.rule.now c.args.region _ refl (omega (arith, c.region_count.ensures, c.if-region-region_count.false)))
