-- Whether a board is made.
use Rattle.std.proofs.Common.{◌≡◌, ◌<◌, ◌≤◌, true, false, length, Some, None, ap, ◌∙◌}
use Rattle.std.proofs.lemmas.Bool.{lt-ltb, le-ltb, cond-true, cond-false}
use Rattle.inventory.specs.Meaning.{Meaning, held}
use Rattle.model.specs.declared.board_refusal.BoardRefusal.TheVariants.{TooManyItems, GoalUnmet}
use Rattle.model.specs.Rules.{reads}
use Rattle.model.specs.Worlds.{World as Atlas, stocked, with_items, pool_items}
use Rattle.model.specs.Boards.{goal_met, make_refusal}

module _ (m : Meaning) (w : Atlas) where
  pub met_is : (v u : m.Value) → v ≡ stocked m w → u ≡ with_items m w v (pool_items w) → reads (held m u) w.goal ≡ goal_met m w
  unfolding goal_met
  met_is v u e f = ap (λ x. reads (held m x) w.goal) (f ∙ ap (λ x. with_items m w x (pool_items w)) e)

  pub too_many : length w.places < length w.pool → make_refusal m w ≡ Some TooManyItems
  too_many h = cond-true _ _ _ (lt-ltb _ _ h)

  pub unmet : length w.pool ≤ length w.places → goal_met m w ≡ false → make_refusal m w ≡ Some GoalUnmet
  unmet h e = cond-false _ _ _ (le-ltb _ _ h) ∙ cond-false _ _ _ e

  pub makes : length w.pool ≤ length w.places → goal_met m w ≡ true → make_refusal m w ≡ None
  makes h e = cond-false _ _ _ (le-ltb _ _ h) ∙ cond-true _ _ _ e
