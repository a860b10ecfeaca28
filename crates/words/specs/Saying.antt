-- What a word says in a rule.
use Rattle.std.specs.Prelude.{◌≡◌, ℕ, ◌≤◌, Bool, true, false, cond, ◌||◌, ◌⊎◌, ◌∷◌, ◌++◌, Some, None, codes, decimal, Option}
use Rattle.std.specs.Str.{bytes_eq}
use Rattle.words.specs.Spelling.{Bytes, is_name, amount}
use Rattle.words.specs.Splitting.{front, behind}

-- met by all, both of two, one of two, an amount of the kind of that name, or nothing that a rule says
pub data Class : Type 0 where
  free : Class
  both : Class
  either : Class
  needs : (name : Bytes) (amount : ℕ) → Class
  other : Class

-- a name with an amount
abbrev pub with_amount : Bytes → Option ℕ → Class
with_amount name None = other
with_amount name (Some n) = cond (is_name name) (needs name n) other

-- what a word says: free, and, or, a name, or a name, a colon and an amount
unfoldable pub class : Bytes → Class
class word =
    cond (bytes_eq word (codes "free")) free
    (cond (bytes_eq word (codes "and")) both
    (cond (bytes_eq word (codes "or")) either
    (cond (is_name word) (needs word 1) (with_amount (front 58 word) (amount (behind 58 word))))))

-- the rules' own words, which no kind is called
abbrev pub own : Class → Bool
own free = true
own both = true
own either = true
own (needs name n) = false
own other = false

-- a row that is one of the rules' own words
abbrev pub own_word : Bytes → Bool
own_word row = bytes_eq row (codes "free") || bytes_eq row (codes "and") || bytes_eq row (codes "or")

-- a name alone, which asks for one
pub record Alone (name : Bytes) (n : ℕ) (row : Bytes) : Type 0 where
  pub named : is_name name ≡ true
  pub not_own : own_word name ≡ false
  pub one : n ≡ 1
  pub same : row ≡ name

-- a name, a colon and the amount as it is printed
pub record Counted (name : Bytes) (n : ℕ) (row : Bytes) : Type 0 where
  pub named : is_name name ≡ true
  pub some : 1 ≤ n
  pub most : n ≤ 999
  pub same : row ≡ name ++ 58 ∷ decimal n

-- how a rule word is spelled
abbrev pub Spelled : Class → Bytes → Type 0
Spelled free row = row ≡ codes "free"
Spelled both row = row ≡ codes "and"
Spelled either row = row ≡ codes "or"
Spelled (needs name n) row = Alone name n row ⊎ Counted name n row
Spelled other row = ⊥
