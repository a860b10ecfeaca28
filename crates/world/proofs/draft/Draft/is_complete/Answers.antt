use Rattle.std.proofs.Common.{Bool, not, ◌&&◌, is_some, sym, ap, ◌∙◌}
use Rattle.std.proofs.lemmas.Bool.{ne_eqb}
use Rattle.world.specs.Worlds.{regions_of}
use Rattle.world.proofs.Finished.{told_complete}
use Rattle.world.proofs.draft.Draft.is_complete.Goals as goal

pub returns-then-region_count-ne0 : goal.returns-then-region_count-ne0
returns-then-region_count-ne0 c =
    let d = c.args.self.now in
    c.is_some.ensures ∙ sym (ap (λ (b : Bool). not b && is_some d.goal) (ne_eqb (regions_of d) 0 (λ e. c.if-region_count-ne0.true (c.region_count.ensures ∙ e)))) ∙ told_complete d
