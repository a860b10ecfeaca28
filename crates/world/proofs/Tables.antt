-- Tables that fit together stand for a proper world.
use Rattle.std.proofs.Common.{◌≡◌, ℕ, ◌+◌, ◌≤◌, Bool, false, not, T, eqb, ltb, List, [], ◌∷◌, map, length, sum_by, is_some, Some, None, Option, IsSome, sym, refl, ap, ◌∙◌, ap₂, arith, leb→le, length-drop, length-take}
use lib.ListN.{length-map}
use Rattle.world.specs.Listed.{listed}
use Rattle.std.proofs.lemmas.Bool.{cond-true, false≢true, ne_eqb}
use Rattle.std.proofs.lemmas.List.Sums.{sum_by-cons}
use Rattle.std.proofs.ByRecursion.{All-map}
use Rattle.inventory.specs.declared.family.Family.{Family}
use Rattle.model.specs.declared.rule_word.RuleWord.{RuleWord}
use Rattle.model.specs.Marks.{every}
use Rattle.model.specs.Rules.{formed}
use Rattle.model.specs.Proper.{proper, proper_rule, Proper, ProperGate, ProperPlace, words_in, kinds_of}
use Rattle.model.specs.Worlds.{Gate as Gateway, Place as Spot}
use Rattle.model.proofs.Sets.{and_both, true_if}
use Rattle.model.proofs.Limits.{every_all, rule_facts, proper_laws}
use Rattle.world.specs.declared.rows.Part.{Part}
use Rattle.world.specs.declared.rows.Gate.{Gate}
use Rattle.world.specs.declared.rows.Place.{Place}
use Rattle.world.specs.declared.draft.Draft.{Draft}
use Rattle.world.specs.declared.world.World.{World}
use Rattle.world.specs.Rows.{inside, words, goal_words, goal_size, gate_of, place_of, gate_sound, place_sound, goal_sound, words_of}
use Rattle.world.specs.Worlds.{regions_of, draft_of, world_of}

-- a part inside the table has as many words as it says
pub length_words : (table : List RuleWord) (part : Part) → T (inside table part) → length (words table part) ≡ part.len
length_words table part t =
    let within : part.start + part.len ≤ length table = leb→le _ _ t in
    ap length (cond-true (inside table part) _ [] (true_if _ t)) ∙ simp (length-take, length-drop) (omega arith)

-- a goal has as many words as its part says, some where it is set, and then it is a proper rule
pub goal_length : (kinds : List ℕ) (table : List RuleWord) (goal : Option Part) → T (goal_sound kinds table goal) → length (goal_words table goal) ≡ goal_size goal
goal_length kinds table None t = refl
goal_length kinds table (Some part) t = length_words table part (and_both (inside table part) _ t).0

some_words : (rule : List RuleWord) → T (formed rule) → eqb (length rule) 0 ≡ false
some_words [] t = absurd t
some_words (word ∷ rule) t = ne_eqb _ _ (λ e. omega arith)

pub goal_unset : (kinds : List ℕ) (table : List RuleWord) (goal : Option Part) → T (goal_sound kinds table goal) → eqb (length (goal_words table goal)) 0 ≡ not (is_some goal)
goal_unset kinds table None t = refl
goal_unset kinds table (Some part) t = some_words (words table part) (rule_facts kinds (words table part) (and_both (inside table part) _ t).1).well_formed

goal_proper : (kinds : List ℕ) (table : List RuleWord) (goal : Option Part) → IsSome goal → T (goal_sound kinds table goal) → T (proper_rule kinds (goal_words table goal))
goal_proper kinds table None e t = absurd (false≢true e)
goal_proper kinds table (Some part) e t = (and_both (inside table part) _ t).1

-- the lengths of the rules that rows stand for, added up
sum_same : {X Y : Type 0} (f : X → Bool) (row : X → Y) (len : X → ℕ) (size : Y → ℕ) → ((x : X) → T (f x) → size (row x) ≡ len x)
    → (xs : List X) → T (every f xs) → sum_by size (map row xs) ≡ sum_by len xs
sum_same f row len size h [] t = refl
sum_same f row len size h (x ∷ xs) t =
    let p = and_both (f x) (every f xs) t in
    sum_by-cons size (row x) (map row xs) ∙ ap₂ (λ a b. a + b) (h x p.0) (sum_same f row len size h xs p.1) ∙ sym (sum_by-cons len x xs)

module _ (regions : ℕ) (kinds : List ℕ) (table : List RuleWord) where
  gate_inside : (g : Gate) → T (gate_sound regions kinds table g) → T (inside table g.rule)
  gate_inside g t = (and_both (inside table g.rule) _ (and_both (ltb g.far regions) _ (and_both (ltb g.near regions) _ t).1).1).0

  place_inside : (q : Place) → T (place_sound regions kinds table q) → T (inside table q.rule)
  place_inside q t = (and_both (inside table q.rule) _ (and_both (ltb q.region regions) _ t).1).0

  rows_counted : (gates : List Gate) (places : List Place) → T (every (gate_sound regions kinds table) gates) → T (every (place_sound regions kinds table) places)
      → sum_by (λ (g : Gateway). length g.rule) (map (gate_of table) gates) + sum_by (λ (q : Spot). length q.rule) (map (place_of table) places)
      ≡ sum_by (λ (g : Gate). g.rule.len) gates + sum_by (λ (q : Place). q.rule.len) places
  rows_counted gates places a b =
      ap₂ (λ x y. x + y)
      (sum_same (gate_sound regions kinds table) (gate_of table) (λ (g : Gate). g.rule.len) (λ (g : Gateway). length g.rule) (λ g t. length_words table g.rule (gate_inside g t)) gates a)
      (sum_same (place_sound regions kinds table) (place_of table) (λ (q : Place). q.rule.len) (λ (q : Spot). length q.rule) (λ q t. length_words table q.rule (place_inside q t)) places b)

  pub words_counted : (gates : List Gate) (places : List Place) (goal : Option Part) → T (every (gate_sound regions kinds table) gates) → T (every (place_sound regions kinds table) places) → T (goal_sound kinds table goal)
      → sum_by (λ (g : Gateway). length g.rule) (map (gate_of table) gates) + sum_by (λ (q : Spot). length q.rule) (map (place_of table) places) + length (goal_words table goal) ≡ words_of gates places goal
  words_counted gates places goal a b c = ap₂ (λ x y. x + y) (rows_counted gates places a b) (goal_length kinds table goal c)

  -- the same where the goal is only known to lie inside the table
  pub words_counted_inside : (gates : List Gate) (places : List Place) (goal : Part) → T (every (gate_sound regions kinds table) gates) → T (every (place_sound regions kinds table) places) → T (inside table goal)
      → sum_by (λ (g : Gateway). length g.rule) (map (gate_of table) gates) + sum_by (λ (q : Spot). length q.rule) (map (place_of table) places) + length (words table goal) ≡ words_of gates places (Some goal)
  words_counted_inside gates places goal a b c = ap₂ (λ x y. x + y) (rows_counted gates places a b) (length_words table goal c)

-- the words that a draft's rules have together
pub draft_words : (d : Draft) → words_in (draft_of d) ≡ length (listed d.words)
unfolding draft_of
draft_words d = words_counted (regions_of d) (listed d.kinds) (listed d.words) (listed d.gates) (listed d.places) d.goal d.gates_lead d.places_lie d.goal_kept ∙ d.counted

pub draft_goal : (d : Draft) → length (draft_of d).goal ≡ goal_size d.goal
unfolding draft_of
draft_goal d = goal_length (listed d.kinds) (listed d.words) d.goal d.goal_kept

module _ (w : World) where
  gate_proper : (g : Gate) → T (gate_sound (regions_of w.made) (listed w.made.kinds) (listed w.made.words) g) → ProperGate (world_of w) (gate_of (listed w.made.words) g)
  unfolding draft_of world_of
  gate_proper g t =
      let p = and_both (ltb g.near (regions_of w.made)) _ t in
      let q = and_both (ltb g.far (regions_of w.made)) _ p.1 in
      record {
        near_known = leb→le _ _ p.0;
        far_known = leb→le _ _ q.0;
        rule_proper = rule_facts _ _ (and_both (inside (listed w.made.words) g.rule) _ q.1).1;
      }

  place_proper : (q : Place) → T (place_sound (regions_of w.made) (listed w.made.kinds) (listed w.made.words) q) → ProperPlace (world_of w) (place_of (listed w.made.words) q)
  unfolding draft_of world_of
  place_proper q t =
      let p = and_both (ltb q.region (regions_of w.made)) _ t in
      record {
        region_known = leb→le _ _ p.0;
        rule_proper = rule_facts _ _ (and_both (inside (listed w.made.words) q.rule) _ p.1).1;
      }

  pub words_total : words_in (world_of w) ≡ length (listed w.made.words)
  unfolding world_of
  words_total = draft_words w.made

  few_of : (f : Family) → kinds_of (world_of w) f ≤ 32
  unfolding draft_of world_of
  few_of = w.made.few_of_each

  facts : Proper (world_of w)
  unfolding draft_of world_of
  facts = record {
    some_region = w.some_region;
    few_regions = w.made.latest.few;
    few_gates = simp length-map w.made.gates.few;
    few_places = simp length-map w.made.places.few;
    few_items = w.made.pool.few;
    small_stock = w.made.stock.few;
    few_kinds = w.made.kinds.few;
    few_of_family = few_of;
    few_words = omega (arith, words_total, w.made.words.few);
    gates_lead = All-map (ProperGate (world_of w)) (gate_of (listed w.made.words)) (listed w.made.gates) (every_all _ _ gate_proper (listed w.made.gates) w.made.gates_lead);
    places_lie = All-map (ProperPlace (world_of w)) (place_of (listed w.made.words)) (listed w.made.places) (every_all _ _ place_proper (listed w.made.places) w.made.places_lie);
    goal_proper = rule_facts _ _ (goal_proper (listed w.made.kinds) (listed w.made.words) w.made.goal w.goal_set w.made.goal_kept);
    pool_known = every_all _ _ (λ code t. t) (listed w.made.pool) w.made.pool_known;
    stock_known = every_all _ _ (λ code t. t) (listed w.made.stock) w.made.stock_known;
  }

  pub is_proper : T (proper (world_of w))
  is_proper = (proper_laws.keeps (world_of w)).1 facts
