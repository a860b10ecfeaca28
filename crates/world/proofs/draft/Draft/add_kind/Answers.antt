use Rattle.std.proofs.Common.{ℕ, ◌≤◌, ◌<◌, T, List, [], ◌∷◌, ◌++◌, count_by, sym, subst, arith}
use Rattle.inventory.specs.declared.family.Family.{Family}
use Rattle.model.specs.Marks.{every}
use Rattle.model.specs.Proper.{of_family, of_kinds}
use Rattle.world.specs.Listed.{listed}
use Rattle.world.specs.Rows.{gate_sound, place_sound, goal_sound}
use Rattle.world.specs.Worlds.{regions_of}
use Rattle.world.proofs.Counting.{still_few}
use Rattle.world.proofs.Growing.{kind_more, every_weaker, gates_grow, places_grow, goal_grows}
use Rattle.world.proofs.Making.{pushed_or_kept}
use Rattle.world.proofs.draft.Draft.add_kind.Goals as goal

pub invariant_of-self : goal.invariant_of-self
invariant_of-self c =
    let d = c.args.self.now in
    let code = c.code-code.result in
    let few : count_by (of_family c.args.family) (listed d.kinds) < 32 = omega (arith, c.kinds_of-number.ensures) in
    let grown = kind_more (regions_of d) (listed d.kinds) code (listed d.words) in
    let either = λ (P : List ℕ → Type 0). pushed_or_kept P c.push.result d.kinds c.push.new.self code c.push.ensures.rows c.push.ensures.kept in
    let still : (g : Family) → count_by (of_family g) (listed d.kinds ++ code ∷ []) ≤ 32 = λ g.
    subst (λ k. count_by (of_family g) (listed d.kinds ++ k ∷ []) ≤ 32) (sym c.code-code.ensures) (still_few c.args.family g (listed d.kinds) _ few (d.few_of_each g)) in record {
      few_of_each = either (λ ks. (g : Family) → count_by (of_family g) ks ≤ 32) d.few_of_each still;
      counted = d.counted;
      gates_lead = either (λ ks. T (every (gate_sound (regions_of d) ks (listed d.words)) (listed d.gates))) d.gates_lead (gates_grow grown (listed d.gates) d.gates_lead);
      places_lie = either (λ ks. T (every (place_sound (regions_of d) ks (listed d.words)) (listed d.places))) d.places_lie (places_grow grown (listed d.places) d.places_lie);
      goal_kept = either (λ ks. T (goal_sound ks (listed d.words) d.goal)) d.goal_kept (goal_grows grown d.goal d.goal_kept);
      pool_known = either (λ ks. T (every (of_kinds ks) (listed d.pool))) d.pool_known (every_weaker _ _ grown.more_kinds (listed d.pool) d.pool_known);
      stock_known = either (λ ks. T (every (of_kinds ks) (listed d.stock))) d.stock_known (every_weaker _ _ grown.more_kinds (listed d.stock) d.stock_known);
      chains_start = d.chains_start;
      chains_go_on = d.chains_go_on;
    }
