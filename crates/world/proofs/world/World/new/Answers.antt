use Rattle.std.proofs.Common.{[], ◌∷◌, is_ok, ap, ◌∙◌}
use Rattle.model.specs.declared.rule_word.RuleWord.TheVariants.{Free}
use Rattle.model.specs.Worlds.{World as Atlas}
use Rattle.world.specs.Building.{told, left, with_region, region_refusal, goal_refusal}
use Rattle.world.proofs.world.World.new.Goals as goal

pub unwrap-requires-2 : goal.unwrap-requires-2
unwrap-requires-2 c =
    ap is_ok (c.set_goal.ensures.answer ∙ ap (λ (w : Atlas). told (goal_refusal w (Free ∷ [])))
    (c.add_region.ensures.draft ∙ ap (λ (w : Atlas). left (region_refusal w) (with_region w) w) c.in_ok-made.ensures))
