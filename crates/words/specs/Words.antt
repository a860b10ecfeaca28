-- Words that borrow the text, and where they stand in it.
use Rattle.std.specs.Prelude.{◌≡◌, ℕ, ◌-◌, ◌≤◌, List, map, length, take, drop}
use Rattle.std.specs.List.{AllByRecursion}
use Rattle.words.specs.declared.word.Word.{Word}
use Rattle.words.specs.declared.word.Word.TheVariants.{Free, And, Or, Name, Amount, Other}
use Rattle.words.specs.declared.word.Placed.{Placed}
use Rattle.words.specs.Spelling.{Bytes}
use Rattle.words.specs.Saying.{Class, free, both, either, needs, other, class}

-- the bytes that the word was read from
abbrev pub bytes : Word → Bytes
bytes (Free b) = b.now
bytes (And b) = b.now
bytes (Or b) = b.now
bytes (Name b) = b.now
bytes (Amount b name n) = b.now
bytes (Other b) = b.now

-- what the word says in a rule
abbrev pub says : Word → Class
says (Free b) = free
says (And b) = both
says (Or b) = either
says (Name b) = needs b.now 1
says (Amount b name n) = needs name.now n
says (Other b) = other

-- the bytes of some words
abbrev pub word_bytes : List Placed → List Bytes
word_bytes words = map (λ w. bytes w.word) words

-- every word says what its bytes do
abbrev pub Said : List Placed → Type 0
Said words = AllByRecursion (λ w. says w.word ≡ class (bytes w.word)) words

-- a word stands where it says, in a line that begins at base
pub record Stands (line : Bytes) (base : ℕ) (w : Placed) : Type 0 where
  pub behind : base ≤ w.start
  pub same : take (length (bytes w.word)) (drop (w.start - base) line) ≡ bytes w.word

-- every word stands where it says, and says what its bytes do
abbrev pub ReadAs : Bytes → ℕ → List Placed → Type 0
ReadAs line base words = AllByRecursion (λ w. Stands line base w × (says w.word ≡ class (bytes w.word))) words
