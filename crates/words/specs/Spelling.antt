-- How words, names and amounts are spelled.
use Rattle.std.specs.Prelude.{ℕ, ◌+◌, ◌-◌, ◌*◌, Bool, true, cond, not, ◌&&◌, ◌||◌, List, fold, length, Some, None, Option, ◌==◌, nat_le, slice_index}
use Rattle.std.specs.List.{list_all}
use Rattle.words.specs.declared.spelling.Alphabet.{Alphabet}
use Rattle.words.specs.declared.spelling.Alphabet.TheVariants.{Wording, Naming, Counting}

-- a row of bytes
abbrev pub Bytes : Type 0
Bytes = List ℕ

-- a to z
abbrev pub letter : ℕ → Bool
letter byte = nat_le 97 byte && nat_le byte 122

-- 0 to 9
abbrev pub digit : ℕ → Bool
digit byte = nat_le 48 byte && nat_le byte 57

-- a letter or a digit
abbrev pub naming : ℕ → Bool
naming byte = letter byte || digit byte

-- a letter, a digit or a colon
abbrev pub wording : ℕ → Bool
wording byte = letter byte || digit byte || byte == 58

-- the bytes of each alphabet
abbrev pub in_alphabet : Alphabet → ℕ → Bool
in_alphabet Wording = wording
in_alphabet Naming = naming
in_alphabet Counting = digit

-- the first byte
abbrev pub first : Bytes → ℕ
first row = slice_index row 0

-- at least one byte and at most that many
abbrev pub sized : ℕ → Bytes → Bool
sized most row = nat_le 1 (length row) && nat_le (length row) most

-- the most bytes that a row of each alphabet may have
abbrev pub longest : Alphabet → ℕ
longest Wording = 16
longest Naming = 12
longest Counting = 3

-- the bytes that such a row may begin with
abbrev pub may_begin : Alphabet → ℕ → Bool
may_begin Wording byte = true
may_begin Naming byte = letter byte
may_begin Counting byte = not (byte == 48)

-- a row that an alphabet can spell
abbrev pub spelled : Alphabet → Bytes → Bool
spelled alphabet row = sized (longest alphabet) row && may_begin alphabet (first row) && list_all (in_alphabet alphabet) row

-- a word: 1 to 16 letters, digits and colons
unfoldable pub is_word : Bytes → Bool
is_word row = spelled Wording row

-- a name: 1 to 12 letters and digits, a letter first
unfoldable pub is_name : Bytes → Bool
is_name row = spelled Naming row

-- the number that digits spell behind those that spell a number already
abbrev pub number : ℕ → Bytes → ℕ
number so_far row = fold (λ sum byte. sum * 10 + (byte - 48)) so_far row

-- an amount: 1 to 3 digits of which the first is not 0
unfoldable pub amount : Bytes → Option ℕ
amount row = cond (spelled Counting row) (Some (number 0 row)) None
