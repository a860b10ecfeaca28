-- Rows of bytes, cut at a separator and glued with it.
use Rattle.std.specs.Prelude.{◌≡◌, ℕ, ◌+◌, Bool, true, not, List, [], ◌∷◌, ◌++◌, length, ◌==◌}
use Rattle.std.specs.List.{list_all, before_first, after_first, slice_split, join_with_byte}
use Rattle.words.specs.Spelling.{Bytes}

-- what stands before the first separator: the whole row if there is none
abbrev pub front : ℕ → Bytes → Bytes
front sep row = before_first (λ x. x == sep) row

-- what stands behind the first separator: nothing if there is none
abbrev pub behind : ℕ → Bytes → Bytes
behind sep row = after_first (λ x. x == sep) row

-- the row cut at every separator: one part more than there are separators
unfoldable pub parts : ℕ → Bytes → List Bytes
parts sep row = slice_split (λ x. x == sep) row

-- the parts in one row, a separator between each two
abbrev pub glued : ℕ → List Bytes → Bytes
glued sep ps = join_with_byte sep ps

-- no byte of the row is the separator
abbrev pub lacks : ℕ → Bytes → Bool
lacks sep row = list_all (λ x. not (x == sep)) row

-- the row has no separator, and is its own only part
pub record Whole (sep : ℕ) (row : Bytes) : Type 0 where
  pub clean : lacks sep row ≡ true
  pub front_is : front sep row ≡ row
  pub behind_is : behind sep row ≡ []
  pub parts_is : parts sep row ≡ row ∷ []

-- the row is cut at its first separator
pub record Cut (sep : ℕ) (row before after : Bytes) : Type 0 where
  pub same : row ≡ before ++ sep ∷ after
  pub clean : lacks sep before ≡ true
  pub front_is : front sep row ≡ before
  pub behind_is : behind sep row ≡ after
  pub parts_is : parts sep row ≡ before ∷ parts sep after
  pub size : length before + 1 + length after ≡ length row
