-- Worlds, and what is open in one with the items that are held.
use Rattle.std.specs.Prelude.{ℕ, Bool, ◌&&◌, ◌||◌, List, [], ◌∷◌, map, length, ◌==◌, nat_eq, slice_index}
use Rattle.std.specs.List.{range_with_len}
use Rattle.inventory.specs.Meaning.{Meaning, held, with_codes}
use Rattle.model.specs.declared.rule_word.RuleWord.{RuleWord}
use Rattle.model.specs.declared.rule_word.RuleWord.TheVariants.{Free}
use Rattle.model.specs.Marks.{at, tabulate, any, iterate}
use Rattle.model.specs.Rules.{reads}

-- a way from one region to another, under a rule
pub record Gate : Type 0 where
  pub near : ℕ
  pub far : ℕ
  pub rule : List RuleWord

-- where an item can lie: in a region, under a rule
pub record Place : Type 0 where
  pub region : ℕ
  pub rule : List RuleWord

-- regions by their number, the code of each kind, gates, places, the codes of the pool's and the stock's items, the rule of the goal
pub record World : Type 0 where
  pub regions : ℕ
  pub kinds : List ℕ
  pub gates : List Gate
  pub places : List Place
  pub pool : List ℕ
  pub stock : List ℕ
  pub goal : List RuleWord

-- one region, and a goal that is met at once
abbrev pub new_world : World
new_world = record { regions = 1; kinds = []; gates = []; places = []; pool = []; stock = []; goal = Free ∷ [] }

-- the items of the pool, which go by their number
abbrev pub pool_items : World → List ℕ
pool_items w = range_with_len 0 (length w.pool)

module _ (m : Meaning) (w : World) where
  -- the value of the stock
  abbrev pub stocked : m.Value
  stocked = with_codes m m.neutral w.stock

  -- a value with some items of the pool joined on
  abbrev pub with_items : m.Value → List ℕ → m.Value
  with_items v items = with_codes m v (map (λ i. slice_index w.pool i) items)

  module _ (v : m.Value) where
    -- a set of regions, and one step further over each gate that the value passes
    unfoldable pub widened : List Bool → List Bool
    widened s = tabulate w.regions (λ r. at s r || any (λ g. at s g.near && g.far == r && reads (held m v) g.rule) w.gates)

    -- the regions reached from region 0
    unfoldable pub reached : List Bool
    reached = iterate w.regions widened (tabulate w.regions (λ r. nat_eq r 0))

    -- the places open with the value: in a reached region, with a rule that is met
    unfoldable pub opens : List Bool
    opens = let r = reached in map (λ q. at r q.region && reads (held m v) q.rule) w.places

  -- the places open with the stock and the whole pool
  unfoldable pub finishable : List Bool
  finishable = opens (with_items stocked (pool_items w))
