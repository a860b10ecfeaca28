-- The regions that are marked, and those of them that wait for their gates to be crossed.
use Rattle.std.specs.Prelude.{◌≡◌, ℕ, ◌+◌, ◌≤◌, Bool, not, ◌&&◌, ◌||◌, T, List, ◌++◌, length, nat_eq}
use Rattle.std.specs.List.{AllByRecursion}
use Rattle.inventory.specs.Meaning.{Meaning, held}
use Rattle.model.specs.declared.rule_word.RuleWord.{RuleWord}
use Rattle.model.specs.Marks.{at, In, Sub, count, any}
use Rattle.model.specs.Rules.{reads}
use Rattle.model.specs.Worlds.{World as Atlas, Gate as Gateway}
use Rattle.model.specs.Laws.{Closed}

-- whether a gate leads from a marked region to one that is not
abbrev pub leads : (ℕ → ℕ → Bool) → ℕ → ℕ → List RuleWord → List Bool → Bool
leads meets near far rule s = at s near && (not (at s far) && reads meets rule)

-- a gate that is passed leads to a marked region, or its near region still waits
abbrev pub Settled : (m : Meaning) → m.Value → List ℕ → List Bool → Gateway → Type 0
Settled m v waiting s g = In s g.near → T (reads (held m v) g.rule) → T (at s g.far || any (nat_eq g.near) waiting)

-- the gates that leave a region are settled
abbrev pub Left : (m : Meaning) (w : Atlas) → m.Value → ℕ → List ℕ → List Bool → Type 0
Left m w v region waiting s = AllByRecursion (λ (g : Gateway). g.near ≡ region → Settled m v waiting s g) w.gates

-- from marked regions s, of which h wait, on to s' and h': what is marked new is in every closed set and waits, and no gate is unsettled
pub record Widens (m : Meaning) (w : Atlas) (v : m.Value) (s : List Bool) (h : List ℕ) (s' : List Bool) (h' : List ℕ) : Type 0 where
  pub size : length s' ≡ length s
  pub keeps : Sub s s'
  pub sound : (t : List Bool) → Closed m w v t → Sub s t → Sub s' t
  pub waits : length h' + count s ≡ length h + count s'
  pub more : count s ≤ count s'
  pub settled : (others : List ℕ) (g : Gateway) → Settled m v (others ++ h) s g → Settled m v (others ++ h') s' g

-- the search from s is under way: s' is marked, h waits, and all gates are settled
pub record Underway (m : Meaning) (w : Atlas) (v : m.Value) (s s' : List Bool) (h : List ℕ) : Type 0 where
  pub keeps : Sub s s'
  pub sound : (t : List Bool) → Closed m w v t → Sub s t → Sub s' t
  pub space : length h ≤ count s'
  pub settled : AllByRecursion (Settled m v h s') w.gates

-- s' is the least closed set that has s
pub record Spread (m : Meaning) (w : Atlas) (v : m.Value) (s s' : List Bool) : Type 0 where
  pub keeps : Sub s s'
  pub sound : (t : List Bool) → Closed m w v t → Sub s t → Sub s' t
  pub closed : Closed m w v s'
