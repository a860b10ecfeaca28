-- What is shown of words and of rows of bytes.
use Rattle.std.specs.Prelude.{◌≡◌, ℕ, ◌≤◌, true, false, ◌⊎◌, List, ◌∷◌, Some, decimal, ◌==◌}
use Rattle.std.specs.List.{list_all}
use Rattle.words.specs.Spelling.{Bytes, wording, is_word, amount}
use Rattle.words.specs.Splitting.{parts, glued, lacks}
use Rattle.words.specs.Saying.{Class, other, class, Spelled}

-- Cutting at every separator and gluing with it undo each other, and no part has a separator.
pub record SplittingLaws : Type 0 where
  pub glued_back : (sep : ℕ) (row : Bytes) → glued sep (parts sep row) ≡ row
  pub cut_back : (sep : ℕ) (p : Bytes) (ps : List Bytes) → list_all (lacks sep) (p ∷ ps) ≡ true → parts sep (glued sep (p ∷ ps)) ≡ p ∷ ps
  pub cut_clean : (sep : ℕ) (row : Bytes) → list_all (lacks sep) (parts sep row) ≡ true

-- A byte that words are not spelled with stands in none of them, nor in what is glued from them with another byte.
pub record SeparatorLaws : Type 0 where
  pub words_lack : (sep : ℕ) (words : List Bytes) → wording sep ≡ false → list_all is_word words ≡ true → list_all (lacks sep) words ≡ true
  pub glued_lacks : (sep glue : ℕ) (ps : List Bytes) → (glue == sep) ≡ false → list_all (lacks sep) ps ≡ true → lacks sep (glued glue ps) ≡ true

-- The amounts are the numbers 1 to 999, each spelled as it is printed, and in no other way.
pub record AmountLaws : Type 0 where
  pub reads : (n : ℕ) → 1 ≤ n → n ≤ 999 → amount (decimal n) ≡ Some n
  pub spelled : (row : Bytes) (n : ℕ) → amount row ≡ Some n → row ≡ decimal n
  pub some : (row : Bytes) (n : ℕ) → amount row ≡ Some n → 1 ≤ n
  pub most : (row : Bytes) (n : ℕ) → amount row ≡ Some n → n ≤ 999

-- What says something in a rule is spelled as that, and what is spelled as that says it: everything else is no rule word.
pub record ClassLaws : Type 0 where
  pub spelled : (row : Bytes) → (class row ≡ other) ⊎ Spelled (class row) row
  pub says : (row : Bytes) (c : Class) → Spelled c row → class row ≡ c
