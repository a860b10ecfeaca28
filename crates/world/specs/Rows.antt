-- What the rows of a world's tables mean, and when they fit together.
use Rattle.std.specs.Prelude.{ℕ, zero, suc, ◌+◌, Bool, true, cond, ◌&&◌, List, [], map, length, take, drop, sum_by, ◌==◌, nat_le, nat_lt, Some, None, Option, slice_index, slice_index_or}
use Rattle.model.specs.declared.rule_word.RuleWord.{RuleWord}
use Rattle.model.specs.Proper.{proper_rule}
use Rattle.model.specs.Worlds.{World as Atlas, Gate as Gateway, Place as Spot}
use Rattle.world.specs.declared.rows.Part.{Part}
use Rattle.world.specs.declared.rows.Gate.{Gate}
use Rattle.world.specs.declared.rows.Place.{Place}

-- whether a part lies inside the table of words
abbrev pub inside : List RuleWord → Part → Bool
inside table part = nat_le (part.start + part.len) (length table)

-- the words of a part; none where it does not lie inside the table
abbrev pub words : List RuleWord → Part → List RuleWord
words table part = cond (inside table part) (take part.len (drop part.start table)) []

-- the words of a goal, and how many they are; none until it is set
abbrev pub goal_words : List RuleWord → Option Part → List RuleWord
goal_words table None = []
goal_words table (Some part) = words table part

abbrev pub goal_size : Option Part → ℕ
goal_size None = 0
goal_size (Some part) = part.len

-- the gate and the place that a row stands for
abbrev pub gate_of : List RuleWord → Gate → Gateway
gate_of table g = record { near = g.near; far = g.far; rule = words table g.rule }

abbrev pub place_of : List RuleWord → Place → Spot
place_of table q = record { region = q.region; rule = words table q.rule }

-- the world that tables stand for
abbrev pub atlas : ℕ → List ℕ → List Gate → List Place → List RuleWord → List ℕ → List ℕ → Option Part → Atlas
atlas regions kinds gates places table pool stock goal = record {
  regions = regions;
  kinds = kinds;
  gates = map (gate_of table) gates;
  places = map (place_of table) places;
  pool = pool;
  stock = stock;
  goal = goal_words table goal;
}

-- whether a part is a proper rule, and a row names known regions and has such a rule
abbrev pub rule_sound : List ℕ → List RuleWord → Part → Bool
rule_sound kinds table part = inside table part && proper_rule kinds (words table part)

abbrev pub gate_sound : ℕ → List ℕ → List RuleWord → Gate → Bool
gate_sound regions kinds table g = nat_lt g.near regions && (nat_lt g.far regions && rule_sound kinds table g.rule)

abbrev pub place_sound : ℕ → List ℕ → List RuleWord → Place → Bool
place_sound regions kinds table q = nat_lt q.region regions && rule_sound kinds table q.rule

-- a goal that is set is a proper rule
abbrev pub goal_sound : List ℕ → List RuleWord → Option Part → Bool
goal_sound kinds table None = true
goal_sound kinds table (Some part) = rule_sound kinds table part

-- how many words the rules of the rows and of the goal have
abbrev pub words_of : List Gate → List Place → Option Part → ℕ
words_of gates places goal = sum_by (λ (g : Gate). g.rule.len) gates + sum_by (λ (q : Place). q.rule.len) places + goal_size goal

-- the region that gate k leaves, and the gate before it that its row names
abbrev pub near_at : List Gate → ℕ → ℕ
near_at gates k = slice_index (map (λ (g : Gate). g.near) gates) k

abbrev pub earlier_at : List Gate → ℕ → Option ℕ
earlier_at gates k = slice_index_or (map (λ (g : Gate). g.earlier) gates) k None

-- the last of the first k gates that leave the region, counted from 0
abbrev pub last_leaving : List Gate → ℕ → ℕ → Option ℕ
last_leaving gates region zero = None
last_leaving gates region (suc k) = cond (near_at gates k == region) (Some k) (last_leaving gates region k)
