-- The numbers of the refusals of load and write, and the board's refusal for each reason that a table has.
use Rattle.std.specs.Prelude.{ℕ}
use Rattle.model.specs.declared.board_refusal.BoardRefusal.{BoardRefusal}
use Rattle.model.specs.declared.board_refusal.BoardRefusal.TheVariants as board
use Rattle.sheet.specs.declared.refusal.PlaceRefusal.{PlaceRefusal}
use Rattle.sheet.specs.declared.refusal.PlaceRefusal.TheVariants as place
use Rattle.sheet.specs.declared.refusal.LoadRefusal.{LoadRefusal}
use Rattle.sheet.specs.declared.refusal.LoadRefusal.TheVariants.{WrongLength, WrongCount, OutsidePool, ItemTwice}
use Rattle.sheet.specs.declared.refusal.ShortBuffer.{ShortBuffer}

abbrev pub load_number : LoadRefusal → ℕ
load_number WrongLength = 13
load_number WrongCount = 14
load_number OutsidePool = 16
load_number ItemTwice = 17

abbrev pub write_number : ShortBuffer → ℕ
write_number why = 18

-- the board's refusal for each reason that a table of place records has
abbrev pub board_refusal : PlaceRefusal → BoardRefusal
board_refusal place.NoPlace = board.NoPlace
board_refusal place.PlaceTaken = board.PlaceTaken
board_refusal place.NoItem = board.NoItem
board_refusal place.ItemSet = board.ItemSet
board_refusal place.PlaceEmpty = board.PlaceEmpty
