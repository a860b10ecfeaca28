-- The limits that a world keeps.
use Rattle.std.specs.Prelude.{ℕ, ◌+◌, ◌%◌, ◌<◌, ◌≤◌, Bool, true, ◌&&◌, T, List, [], ◌∷◌, length, sum_by, count_by, ◌==◌, nat_eq, nat_le, nat_lt}
use Rattle.std.specs.List.{AllByRecursion}
use Rattle.inventory.specs.declared.family.Family.{Family}
use Rattle.inventory.specs.declared.family.Family.TheVariants.{Key, Count, Tier}
use Rattle.model.specs.declared.rule_word.RuleWord.{RuleWord}
use Rattle.model.specs.declared.rule_word.RuleWord.TheVariants.{Free, Need, And, Or}
use Rattle.model.specs.Marks.{any, every}
use Rattle.model.specs.Rules.{formed}
use Rattle.model.specs.Worlds.{Gate, Place, World}

-- whether a code is of a family
abbrev pub of_family : Family → ℕ → Bool
of_family Key code = code % 2 == 0
of_family Count code = code % 4 == 1
of_family Tier code = code % 4 == 3

-- whether a code is one of the kinds'
abbrev pub of_kinds : List ℕ → ℕ → Bool
of_kinds kinds code = any (nat_eq code) kinds

-- whether a word names only codes of the kinds
abbrev pub names_kinds : List ℕ → RuleWord → Bool
names_kinds kinds Free = true
names_kinds kinds (Need code amount) = of_kinds kinds code
names_kinds kinds And = true
names_kinds kinds Or = true

-- how many words all rules have together
abbrev pub words_in : World → ℕ
words_in w = sum_by (λ (g : Gate). length g.rule) w.gates + sum_by (λ (q : Place). length q.rule) w.places + length w.goal

-- how many kinds are of a family
abbrev pub kinds_of : World → Family → ℕ
kinds_of w family = count_by (of_family family) w.kinds

-- whether a rule is at most 32 words long, well formed, and names only codes of the kinds
abbrev pub proper_rule : List ℕ → List RuleWord → Bool
proper_rule kinds rule = nat_le (length rule) 32 && formed rule && every (names_kinds kinds) rule

-- whether a gate joins regions of the world under a proper rule
abbrev pub proper_gate : World → Gate → Bool
proper_gate w g = nat_lt g.near w.regions && nat_lt g.far w.regions && proper_rule w.kinds g.rule

-- whether a place lies in a region of the world under a proper rule
abbrev pub proper_place : World → Place → Bool
proper_place w q = nat_lt q.region w.regions && proper_rule w.kinds q.rule

-- the tests of a world: that it keeps each limit, and names only what it has
abbrev pub limits : World → List Bool
limits w =
    nat_le 1 w.regions
    ∷ nat_le w.regions 64
    ∷ nat_le (length w.gates) 256
    ∷ nat_le (length w.places) 256
    ∷ nat_le (length w.pool) 256
    ∷ nat_le (length w.stock) 32
    ∷ nat_le (length w.kinds) 64
    ∷ nat_le (kinds_of w Key) 32
    ∷ nat_le (kinds_of w Count) 32
    ∷ nat_le (kinds_of w Tier) 32
    ∷ nat_le (words_in w) 4096
    ∷ every (proper_gate w) w.gates
    ∷ every (proper_place w) w.places
    ∷ proper_rule w.kinds w.goal
    ∷ every (of_kinds w.kinds) w.pool
    ∷ every (of_kinds w.kinds) w.stock
    ∷ []

-- whether a world passes them all
unfoldable pub proper : World → Bool
proper w = every (λ test. test) (limits w)

-- what a proper rule keeps
pub record ProperRule (kinds : List ℕ) (rule : List RuleWord) : Type 0 where
  pub short : length rule ≤ 32
  pub well_formed : T (formed rule)
  pub names_known : AllByRecursion (λ word. T (names_kinds kinds word)) rule

-- what a proper gate keeps
pub record ProperGate (w : World) (g : Gate) : Type 0 where
  pub near_known : g.near < w.regions
  pub far_known : g.far < w.regions
  pub rule_proper : ProperRule w.kinds g.rule

-- what a proper place keeps
pub record ProperPlace (w : World) (q : Place) : Type 0 where
  pub region_known : q.region < w.regions
  pub rule_proper : ProperRule w.kinds q.rule

-- what a proper world keeps
pub record Proper (w : World) : Type 0 where
  pub some_region : 1 ≤ w.regions
  pub few_regions : w.regions ≤ 64
  pub few_gates : length w.gates ≤ 256
  pub few_places : length w.places ≤ 256
  pub few_items : length w.pool ≤ 256
  pub small_stock : length w.stock ≤ 32
  pub few_kinds : length w.kinds ≤ 64
  pub few_of_family : (family : Family) → kinds_of w family ≤ 32
  pub few_words : words_in w ≤ 4096
  pub gates_lead : AllByRecursion (ProperGate w) w.gates
  pub places_lie : AllByRecursion (ProperPlace w) w.places
  pub goal_proper : ProperRule w.kinds w.goal
  pub pool_known : AllByRecursion (λ code. T (of_kinds w.kinds code)) w.pool
  pub stock_known : AllByRecursion (λ code. T (of_kinds w.kinds code)) w.stock
