-- Placements, what is gathered from one, and in which sphere.
use Rattle.std.specs.Prelude.{◌≡◌, ℕ, ◌<◌, Bool, true, false, List, [], ◌∷◌, map, length, Some, None, Option, nat_eq, slice_index_or}
use Rattle.inventory.specs.Meaning.{Meaning}
use Rattle.model.specs.Marks.{at, In, any, every, iterate, first}
use Rattle.model.specs.Worlds.{World, pool_items, stocked, with_items, opens}

-- an item or none for each place
abbrev pub Placement : Type 0
Placement = List (Option ℕ)

-- what lies at place k
abbrev pub item_at : Placement → ℕ → Option ℕ
item_at p k = slice_index_or p k None

-- the items that lie in a set of places
abbrev pub lying : Placement → List Bool → List ℕ
lying [] s = []
lying (o ∷ p) [] = []
lying (None ∷ p) (b ∷ s) = lying p s
lying (Some i ∷ p) (true ∷ s) = i ∷ lying p s
lying (Some i ∷ p) (false ∷ s) = lying p s

module _ (m : Meaning) (w : World) where
  module _ (p : Placement) (v : m.Value) where
    -- the places open once the items that lie in a set are joined on
    unfoldable pub gains : List Bool → List Bool
    gains s = opens m w (with_items m w v (lying p s))

    -- the places gathered from the value in k rounds
    unfoldable pub round : ℕ → List Bool
    round k = iterate k gains (map (λ q. false) w.places)

    -- the places gathered in the end: as many rounds as there are places
    unfoldable pub gathered : List Bool
    gathered = round (length w.places)

  -- the first round, counted from 1, that gathers the place from the stock
  unfoldable pub sphere : Placement → ℕ → Option ℕ
  sphere p k = first (length w.places) 1 (λ r. at (round p (stocked m w) r) k)

-- as many entries as places, each an item of the pool or none
pub record Lies (w : World) (p : Placement) : Type 0 where
  pub fits : length p ≡ length w.places
  pub known : (k i : ℕ) → item_at p k ≡ Some i → i < length w.pool

-- no item lies at two places
abbrev pub Once : Placement → Type 0
Once p = (j k i : ℕ) → item_at p j ≡ Some i → item_at p k ≡ Some i → j ≡ k

-- a placement of the world's items
pub record Placed (w : World) (p : Placement) : Type 0 where
  pub lies : Lies w p
  pub once : Once p

-- a placement of all of them, each at a place gathered from the stock
pub record Whole (m : Meaning) (w : World) (p : Placement) : Type 0 where
  pub placed : Placed w p
  pub every : (i : ℕ) → i < length w.pool → (k : ℕ) × (item_at p k ≡ Some i) × In (gathered m w p (stocked m w)) k

-- whether each item of the pool lies at a place gathered from the stock
unfoldable pub whole : (m : Meaning) → World → Placement → Bool
whole m w p = let g = gathered m w p (stocked m w) in every (λ i. any (nat_eq i) (lying p g)) (pool_items w)
