use Rattle.std.proofs.Common.{◌≡◌, false, not, sym, ◌∙◌, arith}
use Rattle.scratch.specs.Marks.{region_marks}
use Rattle.scratch.proofs.Rows.{length_marked}
use Rattle.std.proofs.lemmas.Bool.{and_parts, not-true}
use Rattle.model.specs.Marks.{at}
use Rattle.explore.proofs.Known.{proper_world}
use Rattle.explore.proofs.Counting.{count_below}
use Rattle.explore.proofs.player.Player.cross.Goals as goal

pub push-requires : goal.push-requires
push-requires g c =
    let row = c.args.regions.now in
    let s = region_marks row in
    let size = length_marked 64 row in
    let far = c.args.gate.far in
    let known = c.requires.known.far_known in
    let few = (proper_world c.args.self.now.world.now).few_regions in
    let yes-leads = sym c.leads_on.ensures ∙ c.if-leads_on.true in
    let fresh : at s far ≡ false = not-true (at s far) (and_parts (not (at s far)) _ (and_parts (at s c.args.gate.near) _ yes-leads).1).0 in
    let below = count_below s far (omega arith) fresh in
    omega arith
