-- Places that open, and what is joined on with them.
use Rattle.std.specs.Prelude.{◌≡◌, ℕ, ◌<◌, Bool, true, false, not, ◌&&◌, T, List, length, Some, None, Option, slice_index, slice_index_or}
use Rattle.inventory.specs.Meaning.{Meaning, held}
use Rattle.model.specs.declared.rule_word.RuleWord.{RuleWord}
use Rattle.model.specs.Marks.{at, In, Sub, count}
use Rattle.model.specs.Rules.{reads}
use Rattle.model.specs.Worlds.{World as Atlas, Place as Spot, with_items, reached}
use Rattle.model.specs.Placements.{Placement, lying, gathered}

-- a value with what lies at a place joined on
abbrev pub with_item : (m : Meaning) → Atlas → m.Value → Option ℕ → m.Value
with_item m w v None = v
with_item m w v (Some i) = m.join v (m.grain (slice_index w.pool i))

-- a value with all that is gathered from it joined on
abbrev pub in_the_end : (m : Meaning) (w : Atlas) → Placement → m.Value → m.Value
in_the_end m w p v = with_items m w v (lying p (gathered m w p v))

-- whether a place opens that is not marked yet: its region is marked and its rule met
abbrev pub newly : (ℕ → ℕ → Bool) → ℕ → ℕ → List RuleWord → List Bool → List Bool → Bool
newly meets k region rule r s = not (at s k) && (at r region && reads meets rule)

-- whether marks were added, from s to t
abbrev pub Grew : Bool → List Bool → List Bool → Type 0
Grew true s t = count s < count t
Grew false s t = t ≡ s

-- from marked places s₀ to s, once the first k places are looked at
pub record Opening (opens s₀ s : List Bool) (k : ℕ) (grew : Bool) : Type 0 where
  pub size : length s ≡ length opens
  pub sound : Sub s opens
  pub done : (j : ℕ) → j < k → In opens j → In s j
  pub grown : Grew grew s₀ s

-- gathering from v is under way: regions r and places s are marked, u is the value by now
pub record Ahead (m : Meaning) (w : Atlas) (p : Placement) (v : m.Value) (r s : List Bool) (u : m.Value) : Type 0 where
  pub starts : In r 0
  pub valued : u ≡ with_items m w v (lying p s)
  pub regions_sound : Sub r (reached m w (in_the_end m w p v))
  pub places_sound : Sub s (gathered m w p v)

-- each of the first k places is marked, or its region is not, or its rule not met
abbrev pub Looked : (m : Meaning) (w : Atlas) → m.Value → List Bool → List Bool → ℕ → Type 0
Looked m w u r s k = (j : ℕ) → j < k → (q : Spot) → q ≡ slice_index_or w.places j q → In r q.region → T (reads (held m u) q.rule) → In s j

-- where no place opened, the value is the same, and no place of those looked at can open
abbrev pub Quiet : (m : Meaning) (w : Atlas) → Bool → m.Value → m.Value → List Bool → List Bool → ℕ → Type 0
Quiet m w true u₀ u r s k = Unit {0}
Quiet m w false u₀ u r s k = (u ≡ u₀) × Looked m w u r s k
