-- One item of an attempt: which is drawn, and where it is set.
use Rattle.std.specs.Prelude.{◌≡◌, ℕ, ◌<◌, Bool, false, ◌&&◌, List, [], ◌∷◌, length, Some, filter, ◌≢◌, slice_index, slice_set}
use Rattle.std.specs.List.{remove, range_with_len, AllByRecursion}
use Rattle.std.proofs.Props.{props}
use Rattle.inventory.specs.Meaning.{Meaning}
use Rattle.draw.specs.Source.{Source}
use Rattle.model.specs.Marks.{at}
use Rattle.model.specs.Worlds.{World as Atlas}
use Rattle.model.specs.Placements.{Placement, item_at}
use Rattle.model.specs.Boards.{no_item, is_set}
use Rattle.model.specs.Fills.{candidates}

-- whether a place is empty and marked
abbrev pub fits_at : Placement → List Bool → ℕ → Bool
fits_at p g k = no_item (item_at p k) && at g k

-- the empty places of the world that are marked, in rising number
unfoldable pub empty_marked : Atlas → Placement → List Bool → List ℕ
empty_marked w p g = filter (fits_at p g) (range_with_len 0 (length w.places))

-- the items are apart from each other, none of them lies anywhere, and each is one that a pool may have
unfoldable pub Fresh : Placement → List ℕ → Type 0
Fresh p [] = Unit {0}
Fresh p (i ∷ left) = (i < 256) × (is_set p i ≡ false) × AllByRecursion (λ j. i ≢ j) left × Fresh p left

-- it has one proof at most, as a ghost field needs
pub Fresh-prop : (p : Placement) (left : List ℕ) → IsProp (Fresh p left)
unfolding Fresh
Fresh-prop p [] = Prim.hlevel props
Fresh-prop p (i ∷ left) = let rest = Fresh-prop p left in Prim.hlevel (props, rest)

module _ (s : Source) (x : s.State) (left : List ℕ) where
  -- the item that is drawn
  unfoldable pub picked : ℕ
  picked = slice_index left (s.drawn x (length left))

  -- the others, in order
  unfoldable pub others : List ℕ
  others = remove left (s.drawn x (length left))

-- an item was drawn, and a candidate for it: the attempt goes on with the others
pub record SetOne (m : Meaning) (w : Atlas) (s : Source) (x : s.State) (p : Placement) (left : List ℕ) (x' : s.State) (p' : Placement) (left' : List ℕ) : Type 0 where
  pub some : 0 < length (candidates m w p (others s x left))
  pub rest : left' ≡ others s x left
  pub state : x' ≡ s.after (s.after x (length left)) (length (candidates m w p (others s x left)))
  pub placement : p' ≡ slice_set p (slice_index (candidates m w p (others s x left)) (s.drawn (s.after x (length left)) (length (candidates m w p (others s x left))))) (Some (picked s x left))

-- an item was drawn that has no candidate: nothing else is drawn, and nothing is set
pub record SetNone (m : Meaning) (w : Atlas) (s : Source) (x : s.State) (p : Placement) (left : List ℕ) (x' : s.State) (p' : Placement) (left' : List ℕ) (item : ℕ) : Type 0 where
  pub none : length (candidates m w p (others s x left)) ≡ 0
  pub drawn : item ≡ picked s x left
  pub rest : left' ≡ left
  pub state : x' ≡ s.after x (length left)
  pub placement : p' ≡ p
