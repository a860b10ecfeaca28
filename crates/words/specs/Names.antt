-- Names in a list.
use Rattle.std.specs.Prelude.{ℕ, Bool, List, map, is_some, Option}
use Rattle.std.specs.Borrow.{Bor}
use Rattle.std.specs.List.{position_from}
use Rattle.std.specs.Str.{bytes_eq}
use Rattle.words.specs.Spelling.{Bytes}

-- the names that a list borrows
abbrev pub names_in : List (Bor (List ℕ)) → List Bytes
names_in rows = map (λ x. x.now) rows

-- where a name first stands in a list, counted from a number
abbrev pub place_of : ℕ → Bytes → List Bytes → Option ℕ
place_of at name names = position_from (λ known. bytes_eq known name) at names

-- whether a name stands in a list
unfoldable pub among : Bytes → List Bytes → Bool
among name names = is_some (place_of 0 name names)
