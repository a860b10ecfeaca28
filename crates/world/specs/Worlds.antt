-- What a draft and a world stand for, and what is known of their rows.
use Rattle.std.specs.Prelude.{◌≡◌, ℕ, ◌<◌, T, List, length}
use Rattle.world.specs.Listed.{listed}
use Rattle.model.specs.declared.rule_word.RuleWord.{RuleWord}
use Rattle.model.specs.Rules.{formed}
use Rattle.model.specs.Worlds.{World as Atlas, Gate as Gateway, Place as Spot}
use Rattle.world.specs.declared.rows.Part.{Part}
use Rattle.world.specs.declared.rows.Gate.{Gate}
use Rattle.world.specs.declared.rows.Place.{Place}
use Rattle.world.specs.declared.draft.Draft.{Draft}
use Rattle.world.specs.declared.world.World.{World}
use Rattle.world.specs.Rows.{words, gate_of, place_of, atlas, near_at, earlier_at, last_leaving}

-- how many regions a draft has: as many as it keeps a last gate for
abbrev pub regions_of : Draft → ℕ
regions_of d = length (listed d.latest)

-- the world that a draft stands for; its goal has no words until it is set
unfoldable pub draft_of : Draft → Atlas
draft_of d = atlas (regions_of d) (listed d.kinds) (listed d.gates) (listed d.places) (listed d.words) (listed d.pool) (listed d.stock) d.goal

-- the world that a record stands for
unfoldable pub world_of : World → Atlas
world_of w = draft_of w.made

-- the words of a rule, and what a row stands for
unfoldable pub rule_at : World → Part → List RuleWord
rule_at w part = words (listed w.made.words) part

unfoldable pub gateway : World → Gate → Gateway
gateway w g = gate_of (listed w.made.words) g

unfoldable pub spot : World → Place → Spot
spot w q = place_of (listed w.made.words) q

-- the rows of the gates, in order
unfoldable pub gate_rows : World → List Gate
gate_rows w = listed w.made.gates

-- a gate of the world: its regions are the world's, and its rule is well formed
pub record KnownGate (w : World) (g : Gate) : Type 0 where
  pub near_known : g.near < (world_of w).regions
  pub far_known : g.far < (world_of w).regions
  pub rule_formed : T (formed (rule_at w g.rule))
  pub stands_for : gateway w g ≡ record { near = g.near; far = g.far; rule = rule_at w g.rule }

-- a place of the world: its region is the world's, and its rule is well formed
pub record KnownPlace (w : World) (q : Place) : Type 0 where
  pub region_known : q.region < (world_of w).regions
  pub rule_formed : T (formed (rule_at w q.rule))
  pub stands_for : spot w q ≡ record { region = q.region; rule = rule_at w q.rule }

-- every gate names the gate before it that leaves the same region
abbrev pub Chained : List Gate → Type 0
Chained gates = (k : ℕ) → k < length gates → earlier_at gates k ≡ last_leaving gates (near_at gates k) k
