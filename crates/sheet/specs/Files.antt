-- Sheet files: the bytes of a placement, and what is read from bytes.
use Rattle.std.specs.Prelude.{ℕ, ◌+◌, ◌-◌, ◌*◌, ◌/◌, ◌%◌, cond, List, [], ◌∷◌, ◌++◌, map, length, drop, Some, None, Ok, Err, Option, Result, ◌==◌, nat_lt, slice_index}
use Rattle.std.specs.List.{flat_map}
use Rattle.model.specs.Worlds.{World}
use Rattle.model.specs.Placements.{Placement}
use Rattle.model.specs.Boards.{is_set}
use Rattle.sheet.specs.declared.refusal.LoadRefusal.{LoadRefusal}
use Rattle.sheet.specs.declared.refusal.LoadRefusal.TheVariants.{WrongLength, WrongCount, OutsidePool, ItemTwice}
use Rattle.sheet.specs.declared.refusal.ShortBuffer.{ShortBuffer}
use Rattle.sheet.specs.Changes.{unless}

-- a number as two bytes, the high one first
abbrev pub two_bytes : ℕ → List ℕ
two_bytes n = n / 256 ∷ n % 256 ∷ []

-- two bytes as a number
abbrev pub number : ℕ → ℕ → ℕ
number high low = high * 256 + low

-- how a file names what lies at a place: 0 for none, else the item's number plus 1
abbrev pub entry : Option ℕ → ℕ
entry None = 0
entry (Some i) = i + 1

-- what lies at a place that has this number
abbrev pub item_of : ℕ → Option ℕ
item_of n = cond (n == 0) None (Some (n - 1))

-- the file of a placement: how many places there are, and then what lies at each
unfoldable pub file_of : Placement → List ℕ
file_of p = flat_map two_bytes (length p ∷ map entry p)

-- the numbers in a row of bytes
abbrev pub numbers : List ℕ → List ℕ
numbers [] = []
numbers (byte ∷ []) = []
numbers (high ∷ low ∷ rest) = number high low ∷ numbers rest

-- what lies at each place, by a row of bytes
unfoldable pub entries : List ℕ → Placement
entries bytes = map item_of (numbers bytes)

-- how many places a file says that there are
abbrev pub count_in : List ℕ → ℕ
count_in file = number (slice_index file 0) (slice_index file 1)

-- why what lies at a place is refused, where earlier places have been seen
abbrev pub entry_refusal : ℕ → Placement → Option ℕ → Option LoadRefusal
entry_refusal pool seen None = None
entry_refusal pool seen (Some i) = cond (nat_lt i pool) (cond (is_set seen i) (Some ItemTwice) None) (Some OutsidePool)

-- the one refusal, or else the other
abbrev pub or_else : Option LoadRefusal → Option LoadRefusal → Option LoadRefusal
or_else (Some why) later = Some why
or_else None later = later

-- the first refusal, place by place
abbrev pub entries_refusal : ℕ → Placement → Placement → Option LoadRefusal
entries_refusal pool seen [] = None
entries_refusal pool seen (o ∷ p) = or_else (entry_refusal pool seen o) (entries_refusal pool (seen ++ o ∷ []) p)

-- a placement of which no place is refused
abbrev pub checked : ℕ → Placement → Result Placement LoadRefusal
checked pool p = unless (entries_refusal pool [] p) p

-- what a file is loaded as against a world: its length is looked at, its count, its length again, and then its places
unfoldable pub loaded : World → List ℕ → Result Placement LoadRefusal
loaded w file =
    cond (nat_lt (length file) 2) (Err WrongLength)
    (cond (count_in file == length w.places)
    (cond (length file == 2 + 2 * count_in file) (checked (length w.pool) (entries (drop 2 file)))
    (Err WrongLength))
    (Err WrongCount))

-- what writing a file into a buffer answers: how many bytes the file has, where there is room for them
abbrev pub write_answer : Placement → List ℕ → Result ℕ ShortBuffer
write_answer p buffer = cond (nat_lt (length buffer) (length (file_of p))) (Err (record {})) (Ok (length (file_of p)))

-- what the buffer holds then: the file, and behind it what was there
abbrev pub written : Placement → List ℕ → List ℕ
written p buffer = cond (nat_lt (length buffer) (length (file_of p))) buffer (file_of p ++ drop (length (file_of p)) buffer)
