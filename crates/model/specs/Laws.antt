-- What is shown of worlds, rules, gathering and spheres, for every lawful inventory.
use Rattle.std.specs.Prelude.{◌≡◌, ℕ, suc, ◌<◌, ◌≤◌, Bool, ◌&&◌, ◌||◌, T, ◌↔◌, List, [], ◌∷◌, ◌++◌, length, Some, None, slice_index_or}
use Rattle.std.specs.List.{AllByRecursion}
use Rattle.inventory.specs.declared.family.Family.{Family}
use Rattle.inventory.specs.Meaning.{Meaning, held, with_codes}
use Rattle.inventory.specs.Families.{code_of}
use Rattle.model.specs.declared.rule_word.RuleWord.{RuleWord}
use Rattle.model.specs.declared.rule_word.RuleWord.TheVariants.{And, Or}
use Rattle.model.specs.Marks.{at, In, Sub}
use Rattle.model.specs.Rules.{pass, reads, weighed, formed}
use Rattle.model.specs.Worlds.{Gate, Place, World, new_world, stocked, reached, opens, finishable}
use Rattle.model.specs.Proper.{of_family, proper, Proper}
use Rattle.model.specs.Placements.{Placement, item_at, gains, round, gathered, sphere, Placed, Whole, whole}

-- Words are weighed in turn, and the weight counts the answers that wait; a well formed rule leaves one; a joiner joins those of the two rules before it.
pub record RuleLaw (meets : ℕ → ℕ → Bool) : Type 0 where
  pub goes_on : (a b : List RuleWord) (n k : ℕ) → weighed n a ≡ Some k → weighed n (a ++ b) ≡ weighed k b
  pub ends : (a b : List RuleWord) (n : ℕ) → weighed n a ≡ None → weighed n (a ++ b) ≡ None
  pub counts : (rule : List RuleWord) (waiting : List Bool) (k : ℕ) → weighed (length waiting) rule ≡ Some k → length (pass meets rule waiting) ≡ k
  pub one_answer : (rule : List RuleWord) → T (formed rule) → (waiting : List Bool) → pass meets rule waiting ≡ reads meets rule ∷ waiting
  pub both : (a b : List RuleWord) → T (formed a) → T (formed b) → reads meets (a ++ (b ++ And ∷ [])) ≡ (reads meets a && reads meets b)
  pub either : (a b : List RuleWord) → T (formed a) → T (formed b) → reads meets (a ++ (b ++ Or ∷ [])) ≡ (reads meets a || reads meets b)

-- so it is with every value
abbrev pub RuleLaws : Meaning → Type 0
RuleLaws m = (v : m.Value) → RuleLaw (held m v)

-- The test of a world says what is listed of a proper one; a new world is proper; a code is of a family if it is the code of one of its kinds.
pub record ProperLaws : Type 0 where
  pub keeps : (w : World) → T (proper w) ↔ Proper w
  pub new : T (proper new_world)
  pub families : (family : Family) (code : ℕ) → T (of_family family code) ↔ ((n : ℕ) × (code ≡ code_of family n))

-- a set of regions that no gate leaves which the value passes
abbrev pub Closed : (m : Meaning) (w : World) → m.Value → List Bool → Type 0
Closed m w v s = AllByRecursion (λ (g : Gate). In s g.near → T (reads (held m v) g.rule) → In s g.far) w.gates

-- The reached regions are the least set that has region 0 and is closed.
pub record ReachLaw (m : Meaning) (w : World) (v : m.Value) : Type 0 where
  pub starts : In (reached m w v) 0
  pub closed : Closed m w v (reached m w v)
  pub least : (s : List Bool) → In s 0 → Closed m w v s → Sub (reached m w v) s
  pub only : (s : List Bool) → length s ≡ w.regions → In s 0 → Closed m w v s → Sub s (reached m w v) → s ≡ reached m w v

-- so it is in every proper world, with every value
abbrev pub ReachLaws : Meaning → Type 0
ReachLaws m = (w : World) → T (proper w) → (v : m.Value) → ReachLaw m w v

-- a set of places that has every place open with the value and what lies in the set
abbrev pub Covers : (m : Meaning) (w : World) → Placement → m.Value → List Bool → Type 0
Covers m w p v s = Sub (gains m w p v s) s

-- The gathered places are the least covering set, and one more round adds nothing; rounds only add, and settle within as many as there are places.
pub record GatherLaw (m : Meaning) (w : World) (p : Placement) (v : m.Value) : Type 0 where
  pub settled : gains m w p v (gathered m w p v) ≡ gathered m w p v
  pub least : (s : List Bool) → Covers m w p v s → Sub (gathered m w p v) s
  pub only : (s : List Bool) → length s ≡ length w.places → Covers m w p v s → Sub s (gathered m w p v) → s ≡ gathered m w p v
  pub adds : (k : ℕ) → Sub (round m w p v k) (round m w p v (suc k))
  pub ends : (k : ℕ) → length w.places ≤ k → round m w p v k ≡ gathered m w p v
  pub stops : (k : ℕ) → round m w p v (suc k) ≡ round m w p v k → round m w p v k ≡ gathered m w p v

-- so it is with every placement and value
abbrev pub GatherLaws : Meaning → Type 0
GatherLaws m = (w : World) (p : Placement) (v : m.Value) → GatherLaw m w p v

-- each item of the one placement lies where it lies in the other, which may have more
abbrev pub Extends : Placement → Placement → Type 0
Extends p q = (k i : ℕ) → item_at p k ≡ Some i → item_at q k ≡ Some i

-- More items never close anything.
pub record GrowthLaws (m : Meaning) : Type 0 where
  pub items : (v : m.Value) (codes : List ℕ) → m.Below v (with_codes m v codes)
  pub rules : (u v : m.Value) → m.Below u v → (rule : List RuleWord) → T (reads (held m u) rule) → T (reads (held m v) rule)
  pub regions : (w : World) (u v : m.Value) → m.Below u v → Sub (reached m w u) (reached m w v)
  pub places : (w : World) (u v : m.Value) → m.Below u v → Sub (opens m w u) (opens m w v)
  pub gathering : (w : World) (p : Placement) (u v : m.Value) → m.Below u v → Sub (gathered m w p u) (gathered m w p v)
  pub placing : (w : World) (p q : Placement) (v : m.Value) → Extends p q → Sub (gathered m w p v) (gathered m w q v)

-- A place's sphere is the first round that gathers it from the stock; what is gathered has one, and nothing else has.
pub record SphereLaw (m : Meaning) (w : World) (p : Placement) : Type 0 where
  pub there : (k r : ℕ) → sphere m w p k ≡ Some r → In (round m w p (stocked m w) r) k
  pub not_before : (k r j : ℕ) → sphere m w p k ≡ Some r → j < r → In (round m w p (stocked m w) j) k → ⊥
  pub some : (k : ℕ) → In (gathered m w p (stocked m w)) k → (r : ℕ) × (sphere m w p k ≡ Some r)
  pub none : (k : ℕ) → (In (gathered m w p (stocked m w)) k → ⊥) → sphere m w p k ≡ None

-- so it is with every placement
abbrev pub SphereLaws : Meaning → Type 0
SphereLaws m = (w : World) (p : Placement) → SphereLaw m w p

-- With a whole placement, what is gathered from the stock is what can be finished, and just that has a sphere.
pub record WholeLaw (m : Meaning) (w : World) (p : Placement) : Type 0 where
  pub gathers : gathered m w p (stocked m w) ≡ finishable m w
  pub spheres : (k : ℕ) → In (finishable m w) k → (r : ℕ) × (sphere m w p k ≡ Some r)
  pub no_spheres : (k : ℕ) → (In (finishable m w) k → ⊥) → sphere m w p k ≡ None

-- so it is with every whole placement, and the test tells which placements are whole
pub record WholeLaws (m : Meaning) : Type 0 where
  pub finishes : (w : World) (p : Placement) → Whole m w p → WholeLaw m w p
  pub told : (w : World) (p : Placement) → Placed w p → T (whole m w p) ↔ Whole m w p

-- There is a yes or no for each region or place, and a place is open where its region is reached and its rule met.
pub record TableLaws (m : Meaning) : Type 0 where
  pub regions_reached : (w : World) (v : m.Value) → length (reached m w v) ≡ w.regions
  pub places_open : (w : World) (v : m.Value) → length (opens m w v) ≡ length w.places
  pub places_in_round : (w : World) (p : Placement) (v : m.Value) (k : ℕ) → length (round m w p v k) ≡ length w.places
  pub places_gathered : (w : World) (p : Placement) (v : m.Value) → length (gathered m w p v) ≡ length w.places
  pub places_finishable : (w : World) → length (finishable m w) ≡ length w.places
  pub open_at : (w : World) (v : m.Value) (k : ℕ) (other : Place) → k < length w.places
      → at (opens m w v) k ≡ (at (reached m w v) (slice_index_or w.places k other).region && reads (held m v) (slice_index_or w.places k other).rule)
