-- Boards: what each call leaves, or why it is refused; a refusal leaves the board as it was.
use Rattle.std.specs.Prelude.{ℕ, Bool, true, false, cond, not, ◌&&◌, List, map, length, Some, None, Ok, Err, filter, Option, Result, ◌==◌, nat_lt, slice_set}
use Rattle.inventory.specs.Meaning.{Meaning, held}
use Rattle.model.specs.declared.board_refusal.BoardRefusal.{BoardRefusal}
use Rattle.model.specs.declared.board_refusal.BoardRefusal.TheVariants.{FewMarks, TooManyItems, GoalUnmet, NoItem, HandFull, ItemSet, NotInHand, NoPlace, PlaceTaken, NotGathered, PlaceEmpty}
use Rattle.model.specs.Marks.{at, any, work_marks}
use Rattle.model.specs.Rules.{reads}
use Rattle.model.specs.Worlds.{World, pool_items, stocked, with_items}
use Rattle.model.specs.Placements.{Placement, item_at, gathered}

-- a placement in the making, and the item in hand or none
pub record Board : Type 0 where
  pub placement : Placement
  pub hand : Option ℕ

-- a board of the world, with nothing set and nothing in hand
abbrev pub new_board : World → Board
new_board w = record { placement = map (λ q. None) w.places; hand = None }

-- whether there is no item
abbrev pub no_item : Option ℕ → Bool
no_item None = true
no_item (Some i) = false

-- whether it is this item
abbrev pub is_item : ℕ → Option ℕ → Bool
is_item i None = false
is_item i (Some j) = i == j

-- whether an item is set: it lies at some place
unfoldable pub is_set : Placement → ℕ → Bool
is_set p i = any (is_item i) p

-- the items that are not set, in rising number
unfoldable pub unset : World → Placement → List ℕ
unset w p = filter (λ i. not (is_set p i)) (pool_items w)

-- the items neither set nor in hand, in rising number
unfoldable pub loose : World → Board → List ℕ
loose w b = filter (λ i. not (is_set b.placement i) && not (is_item i b.hand)) (pool_items w)

module _ (m : Meaning) (w : World) where
  -- whether the stock and the whole pool meet the goal
  unfoldable pub goal_met : Bool
  goal_met = reads (held m (with_items m w (stocked m w) (pool_items w))) w.goal

  -- why no board is made of the world, if none is
  abbrev pub make_refusal : Option BoardRefusal
  make_refusal =
      cond (nat_lt (length w.places) (length w.pool)) (Some TooManyItems)
      (cond goal_met None (Some GoalUnmet))

  -- the places gathered from the stock joined with some items
  abbrev pub gathered_with : Placement → List ℕ → List Bool
  gathered_with p items = gathered m w p (with_items m w (stocked m w) items)

-- the board with the item in hand
abbrev pub lifted : World → Board → ℕ → Result Board BoardRefusal
lifted w b item =
    cond (not (nat_lt item (length w.pool))) (Err NoItem)
    (cond (not (no_item b.hand)) (Err HandFull)
    (cond (is_set b.placement item) (Err ItemSet)
    (Ok (record { placement = b.placement; hand = Some item }))))

-- the board with the item of the hand set at the place, which the loose items have to gather
abbrev pub set_at : (m : Meaning) → World → Board → (item place lent : ℕ) → Result Board BoardRefusal
set_at m w b item place lent =
    cond (nat_lt lent work_marks) (Err FewMarks)
    (cond (not (is_item item b.hand)) (Err NotInHand)
    (cond (not (nat_lt place (length w.places))) (Err NoPlace)
    (cond (not (no_item (item_at b.placement place))) (Err PlaceTaken)
    (cond (not (at (gathered_with m w b.placement (loose w b)) place)) (Err NotGathered)
    (Ok (record { placement = slice_set b.placement place (Some item); hand = None }))))))

-- the board with the hand empty again
abbrev pub put_back : Board → ℕ → Result Board BoardRefusal
put_back b item =
    cond (not (is_item item b.hand)) (Err NotInHand)
    (Ok (record { placement = b.placement; hand = None }))

-- the item at the place, if there is one
abbrev pub taken_up : World → Board → ℕ → Result ℕ BoardRefusal
taken_up w b place =
    cond (not (nat_lt place (length w.places))) (Err NoPlace)
    (elim (item_at b.placement place) [ Some item ↦ Ok item | None ↦ Err PlaceEmpty ])

-- the board with the place empty
abbrev pub cleared : Board → ℕ → Board
cleared b place = record { placement = slice_set b.placement place None; hand = b.hand }

-- the board that a call leaves
abbrev pub left_by : Board → Result Board BoardRefusal → Board
left_by b (Ok b') = b'
left_by b (Err e) = b

-- the board that a take up leaves
abbrev pub after_take_up : World → Board → ℕ → Board
after_take_up w b place = elim (taken_up w b place) [ Ok item ↦ cleared b place | Err e ↦ b ]
