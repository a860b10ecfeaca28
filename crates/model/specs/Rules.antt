-- Rules: when one is met, and when one is well formed.
use Rattle.std.specs.Prelude.{ℕ, ◌+◌, ◌-◌, Bool, true, false, cond, ◌&&◌, ◌||◌, List, [], ◌∷◌, Some, None, Option, ◌==◌, nat_lt}
use Rattle.model.specs.declared.rule_word.RuleWord.{RuleWord}
use Rattle.model.specs.declared.rule_word.RuleWord.TheVariants.{Free, Need, And, Or}

-- the two newest of the answers that wait become one
abbrev pub joined : (Bool → Bool → Bool) → List Bool → List Bool
joined op [] = []
joined op (a ∷ []) = a ∷ []
joined op (a ∷ b ∷ waiting) = op b a ∷ waiting

-- what one word does to the answers that wait, the newest first; `meets` answers whether an amount of a code is held
abbrev pub put_down : (ℕ → ℕ → Bool) → RuleWord → List Bool → List Bool
put_down meets Free waiting = true ∷ waiting
put_down meets (Need code amount) waiting = meets code amount ∷ waiting
put_down meets And waiting = joined ◌&&◌ waiting
put_down meets Or waiting = joined ◌||◌ waiting

-- the answers that wait once the words are passed over from left to right
abbrev pub pass : (ℕ → ℕ → Bool) → List RuleWord → List Bool → List Bool
pass meets [] waiting = waiting
pass meets (word ∷ rule) waiting = pass meets rule (put_down meets word waiting)

-- the newest answer, or no
abbrev pub last : List Bool → Bool
last [] = false
last (a ∷ waiting) = a

-- whether a rule is met
abbrev pub reads : (ℕ → ℕ → Bool) → List RuleWord → Bool
reads meets rule = last (pass meets rule [])

-- how many answers wait after a word where n waited: at most eight may wait, and a joiner needs two
abbrev pub weigh : ℕ → RuleWord → Option ℕ
weigh n Free = cond (nat_lt n 8) (Some (n + 1)) None
weigh n (Need code amount) = cond (nat_lt n 8) (Some (n + 1)) None
weigh n And = cond (nat_lt 1 n) (Some (n - 1)) None
weigh n Or = cond (nat_lt 1 n) (Some (n - 1)) None

-- how many wait after some words where n waited, or None where a word finds too many or too few
abbrev pub weighed : ℕ → List RuleWord → Option ℕ
weighed n [] = Some n
weighed n (word ∷ rule) = elim (weigh n word) [ Some k ↦ weighed k rule | None ↦ None ]

-- one answer, neither none nor more
abbrev pub one_left : Option ℕ → Bool
one_left (Some n) = n == 1
one_left None = false

-- whether a rule is well formed: every word finds what it needs, and one answer is left
abbrev pub formed : List RuleWord → Bool
formed rule = one_left (weighed 0 rule)
