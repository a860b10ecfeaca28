-- The calls on a board one after another, what they answer, and the board they leave.
use Rattle.std.specs.Prelude.{ℕ, zero, suc, ◌%◌, List, [], ◌∷◌, Ok, Err, Result}
use Rattle.inventory.specs.Meaning.{Meaning}
use Rattle.draw.specs.Source.{Source}
use Rattle.model.specs.declared.board_refusal.BoardRefusal.{BoardRefusal}
use Rattle.model.specs.Worlds.{World}
use Rattle.model.specs.Placements.{Placement}
use Rattle.model.specs.Boards.{Board, lifted, set_at, put_back, taken_up, left_by, after_take_up}
use Rattle.model.specs.Fills.{filling}

-- the answer to draw n, where `answers` has one for each row of sizes that were asked, the newest first
abbrev pub answered : (List ℕ → ℕ) → List ℕ → ℕ → ℕ
answered answers asked zero = 0
answered answers asked (suc n) = answers (suc n ∷ asked) % suc n

-- the sizes asked after draw n
abbrev pub asking : List ℕ → ℕ → List ℕ
asking asked zero = asked
asking asked (suc n) = suc n ∷ asked

-- a source that is known by what it answers
abbrev pub by_answers : (List ℕ → ℕ) → Source
by_answers answers = record { State = List ℕ; drawn = answered answers; after = asking }

-- a call on a board; `lent` is how many work marks are lent, and a fill's source is known by its answers
pub data Call : Type 0 where
  lift : (item : ℕ) → Call
  set : (item place lent : ℕ) → Call
  back : (item : ℕ) → Call
  take_up : (place : ℕ) → Call
  fill : (answers : List ℕ → ℕ) (attempts lent : ℕ) → Call
  sheet : Call

-- what a call answers: a refusal, that it is done, the item found, the attempt that succeeded, or the placement copied
pub data Answer : Type 0 where
  refused : BoardRefusal → Answer
  done : Answer
  found : ℕ → Answer
  filled : ℕ → Answer
  copied : Placement → Answer

-- the answer, or the refusal
abbrev pub told : {A : Type 0} → (A → Answer) → Result A BoardRefusal → Answer
told say (Ok x) = say x
told say (Err e) = refused e

module _ (m : Meaning) (w : World) where
  -- what a call answers, and the board that it leaves
  abbrev pub step : Board → Call → Answer × Board
  step b (lift item) = let r = lifted w b item in (told (λ b'. done) r, left_by b r)
  step b (set item place lent) = let r = set_at m w b item place lent in (told (λ b'. done) r, left_by b r)
  step b (back item) = let r = put_back b item in (told (λ b'. done) r, left_by b r)
  step b (take_up place) = (told found (taken_up w b place), after_take_up w b place)
  step b (fill answers attempts lent) = let f = filling m w (by_answers answers) b [] attempts lent in (told filled f.answer, f.board)
  step b sheet = (copied b.placement, b)

  -- the board after a list of calls
  abbrev pub after : Board → List Call → Board
  after b [] = b
  after b (call ∷ calls) = after (step b call).1 calls

  -- what a list of calls answers
  abbrev pub answers : Board → List Call → List Answer
  answers b [] = []
  answers b (call ∷ calls) = (step b call).0 ∷ answers (step b call).1 calls
