-- What a fill answers and leaves.
use Rattle.std.specs.Prelude.{◌≡◌, ℕ, List, length, None, Ok, Err, Result}
use Rattle.inventory.specs.Meaning.{Meaning}
use Rattle.draw.specs.Source.{Source}
use Rattle.model.specs.declared.board_refusal.BoardRefusal.{BoardRefusal}
use Rattle.model.specs.declared.board_refusal.BoardRefusal.TheVariants as refusal
use Rattle.model.specs.Worlds.{World as Atlas}
use Rattle.model.specs.Placements.{Placement}
use Rattle.model.specs.Boards.{Board}
use Rattle.model.specs.Fills.{Outcome, attempt, tries}
use Rattle.filling.specs.declared.no_candidate.NoCandidate.{NoCandidate}

-- a board with nothing in hand
abbrev pub idle : Placement → Board
idle p = record { placement = p; hand = None }

-- the answer, as a board gives it
abbrev pub told : Result ℕ NoCandidate → Result ℕ BoardRefusal
told (Ok nth) = Ok nth
told (Err left) = Err (refusal.NoCandidate left.item)

-- how an attempt ends that has come to a state and a placement, with some items left
unfoldable pub ending : (m : Meaning) (w : Atlas) (s : Source) → s.State → Placement → List ℕ → Outcome s.State
ending m w s x p left = attempt m w s (length left) x p left

-- a fill that answers r, and leaves the source in state x' and the placement p', does what so many attempts do from x and p
abbrev pub Filled : (m : Meaning) (w : Atlas) (s : Source) → (attempts : ℕ) → s.State → Placement → Result ℕ NoCandidate → s.State → Placement → Type 0
Filled m w s attempts x p r x' p' = tries m w s (idle p) attempts 1 x 0 ≡ record { answer = told r; board = idle p'; state = x' }
