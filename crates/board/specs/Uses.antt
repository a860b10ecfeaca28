-- What the examples of using a board leave.
use Rattle.std.specs.Prelude.{ℕ, Ok, Err, Result}
use Rattle.model.specs.declared.board_refusal.BoardRefusal.{BoardRefusal}
use Rattle.model.specs.Boards.{Board, put_back, left_by}

-- the board that a set leaves where the item is put back if it is refused
abbrev pub or_back : Board → (item : ℕ) → Result Board BoardRefusal → Board
or_back b item (Ok b') = b'
or_back b item (Err why) = left_by b (put_back b item)
