use Rattle.std.proofs.Common.{eqb, sym, ap, ◌∙◌}
use Rattle.std.proofs.lemmas.Bool.{cond-true, cond-false, eq-eqb, ne_eqb}
use Rattle.std.proofs.lemmas.Result.{err_from_is_err_and}
use Rattle.world.specs.Building.{told}
use Rattle.world.specs.Worlds.{regions_of}
use Rattle.world.proofs.Adding.{goal_refused, goal_due}
use Rattle.world.proofs.draft.Draft.check_goal.Goals as goal

pub returns-in_err-check_rule : goal.returns-in_err-check_rule
returns-in_err-check_rule c =
    let p = err_from_is_err_and c.from_residual.result c.from_residual.ensures.1 in
    rw (p.1, p.2) (sym (goal_refused c.args.self.now c.args.rule.now _ (sym c.if-is_some.ensures) (sym c.in_err-check_rule.ensures)))

pub returns-then-region_count-eq0 : goal.returns-then-region_count-eq0
returns-then-region_count-eq0 c =
    let d = c.args.self.now in
    sym (goal_due d c.args.rule.now (sym c.if-is_some.ensures) (sym c.in_ok-check_rule.ensures) ∙ ap told (cond-true (eqb (regions_of d) 0) _ _ (eq-eqb _ _ (sym c.region_count.ensures ∙ c.if-region_count-eq0.true))))

pub returns-else-region_count-eq0 : goal.returns-else-region_count-eq0
returns-else-region_count-eq0 c =
    let d = c.args.self.now in
    sym (goal_due d c.args.rule.now (sym c.if-is_some.ensures) (sym c.in_ok-check_rule.ensures) ∙ ap told (cond-false (eqb (regions_of d) 0) _ _ (ne_eqb _ _ (λ e. c.if-region_count-eq0.false (c.region_count.ensures ∙ e)))))
