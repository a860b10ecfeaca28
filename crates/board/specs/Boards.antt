-- What a board record stands for, and what a call makes of it.
use Rattle.std.specs.Prelude.{◌≡◌, Some, None, Result, MatchResult}
use Rattle.inventory.specs.Meaning.{Meaning}
use Rattle.world.specs.Worlds.{world_of}
use Rattle.model.specs.declared.board_refusal.BoardRefusal.{BoardRefusal}
use Rattle.model.specs.Worlds.{World as Atlas}
use Rattle.model.specs.Boards.{Board as Model, new_board, make_refusal}
use Rattle.board.specs.declared.board.Board.{Board}

-- the world that the board is of
unfoldable pub atlas_of : {I : Type 0} → Board I → Atlas
atlas_of b = world_of b.world.now

-- its placement and its hand
unfoldable pub board_of : {I : Type 0} → Board I → Model
board_of b = record { placement = b.layout.table; hand = b.layout.hand }

-- a board of the same world that stands for what a call leaves
abbrev pub Left : {I : Type 0} → Board I → Model → Board I → Type 0
Left before leaves after = (board_of after ≡ leaves) × (atlas_of after ≡ atlas_of before)

-- a new board of the world, or why there is none
abbrev pub Made : (m : Meaning) → Atlas → {I : Type 0} → Result (Board I) BoardRefusal → Type 0
Made m w r =
    MatchResult r
    (λ b. (make_refusal m w ≡ None) × (board_of b ≡ new_board w) × (atlas_of b ≡ w))
    (λ why. make_refusal m w ≡ Some why)
