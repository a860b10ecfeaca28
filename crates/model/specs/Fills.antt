-- Fills: a place is drawn for each item that is not set.
use Rattle.std.specs.Prelude.{ℕ, zero, suc, cond, not, ◌&&◌, ◌||◌, List, length, Some, None, Ok, Err, filter, Result, ◌==◌, nat_lt, slice_index, slice_set}
use Rattle.std.specs.List.{remove, range_with_len}
use Rattle.inventory.specs.Meaning.{Meaning}
use Rattle.draw.specs.Source.{Source}
use Rattle.model.specs.declared.board_refusal.BoardRefusal.{BoardRefusal}
use Rattle.model.specs.declared.board_refusal.BoardRefusal.TheVariants.{FewMarks, HandFull, NoCandidate, BadAttempts}
use Rattle.model.specs.Marks.{at, work_marks}
use Rattle.model.specs.Worlds.{World}
use Rattle.model.specs.Placements.{Placement, item_at}
use Rattle.model.specs.Boards.{Board, no_item, unset, gathered_with}

-- how an attempt ends: with every item set, or at an item without a candidate; and the source's state then
pub data Outcome (S : Type 0) : Type 0 where
  complete : Placement → S → Outcome S
  stuck : (item : ℕ) → S → Outcome S

-- what a fill answers (which attempt succeeded, counted from 1), and the board and the source's state that it leaves
pub record Filling (S : Type 0) : Type 0 where
  pub answer : Result ℕ BoardRefusal
  pub board : Board
  pub state : S

module _ (m : Meaning) (w : World) where
  -- the empty places gathered from the stock joined with the items left, in rising number
  unfoldable pub candidates : Placement → List ℕ → List ℕ
  candidates p left =
      let g = gathered_with m w p left in
      filter (λ k. no_item (item_at p k) && at g k) (range_with_len 0 (length w.places))

  module _ (s : Source) where
    -- an attempt with n items left to set: one of them is drawn, then a candidate for it
    abbrev pub attempt : ℕ → s.State → Placement → List ℕ → Outcome s.State
    attempt zero x p left = complete p x
    attempt (suc n) x p left =
        let j = s.drawn x (length left) in
        let x' = s.after x (length left) in
        let others = remove left j in
        let found = candidates p others in
        cond (length found == 0) (stuck (slice_index left j) x')
        (attempt n (s.after x' (length found)) (slice_set p (slice_index found (s.drawn x' (length found))) (Some (slice_index left j))) others)

    -- the attempts from the nth on, each from the same board; `last` is the item at which the one before was left
    abbrev pub tries : Board → (more nth : ℕ) → s.State → (last : ℕ) → Filling s.State
    tries b zero nth x last = record { answer = Err (NoCandidate last); board = b; state = x }
    tries b (suc more) nth x last =
        let left = unset w b.placement in
        elim (attempt (length left) x b.placement left) [
          | complete p x' ↦ record { answer = Ok nth; board = record { placement = p; hand = None }; state = x' }
          | stuck item x' ↦ tries b more (suc nth) x' item
        ]

    -- what a fill does with the source in a state
    abbrev pub filling : Board → s.State → (attempts lent : ℕ) → Filling s.State
    filling b x attempts lent =
        cond (nat_lt lent work_marks) (record { answer = Err FewMarks; board = b; state = x })
        (cond (attempts == 0 || nat_lt 64 attempts) (record { answer = Err BadAttempts; board = b; state = x })
        (cond (not (no_item b.hand)) (record { answer = Err HandFull; board = b; state = x })
        (tries b attempts 1 x 0)))
