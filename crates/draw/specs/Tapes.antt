-- The tape: numbers written down beforehand, used up from the front; where there are none, 0.
use Rattle.std.specs.Prelude.{ℕ, List, drop, slice_index}
use Rattle.draw.specs.Source.{Source, Fair, modulo, modulo_fair}

abbrev pub first : List ℕ → ℕ
first xs = slice_index xs 0

abbrev pub others : List ℕ → List ℕ
others xs = drop 1 xs

-- a draw uses up the front number and answers its remainder; an empty tape stays empty
abbrev pub tape : Source
tape = modulo first others

pub tape_fair : Fair tape
tape_fair = modulo_fair first others
