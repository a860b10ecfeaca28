-- The number of each refusal of a board and of a run.
use Rattle.std.specs.Prelude.{ℕ}
use Rattle.model.specs.declared.board_refusal.BoardRefusal.{BoardRefusal}
use Rattle.model.specs.declared.board_refusal.BoardRefusal.TheVariants as board
use Rattle.model.specs.declared.run_refusal.RunRefusal.{RunRefusal}
use Rattle.model.specs.declared.run_refusal.RunRefusal.TheVariants as run

-- of a board
abbrev pub board_number : BoardRefusal → ℕ
board_number board.FewMarks = 19
board_number board.TooManyItems = 20
board_number board.GoalUnmet = 21
board_number board.NoItem = 22
board_number board.HandFull = 23
board_number board.ItemSet = 24
board_number (board.NoCandidate item) = 25
board_number board.NotInHand = 26
board_number board.NoPlace = 27
board_number board.PlaceTaken = 28
board_number board.NotGathered = 29
board_number board.PlaceEmpty = 30
board_number board.BadAttempts = 31

-- of a run
abbrev pub run_number : RunRefusal → ℕ
run_number run.FewMarks = 19
run_number run.OtherCount = 14
run_number run.OutsidePool = 16
run_number run.NotWhole = 32
run_number run.NotStarted = 34
run_number run.NoPlace = 27
run_number run.AlreadyTaken = 36
run_number run.Closed = 37
