-- Reading a rule word by word.
use Rattle.std.specs.Prelude.{◌≡◌, ℕ, ◌<◌, Bool, cond, ◌&&◌, List, ◌∷◌, length, Some, None, Option}
use Rattle.model.specs.declared.rule_word.RuleWord.{RuleWord}
use Rattle.model.specs.Rules.{put_down, reads, weigh, formed}

-- whether a rule is well formed and met
abbrev pub met : (ℕ → ℕ → Bool) → List RuleWord → Bool
met meets rule = formed rule && reads meets rule

-- whether a rule is met; none where it is not well formed
abbrev pub answered : (ℕ → ℕ → Bool) → List RuleWord → Option Bool
answered meets rule = cond (formed rule) (Some (reads meets rule)) None

-- a value lies on top of those that wait, of which there were fewer than n
abbrev pub LaidDown : {T : Type 0} → ℕ → T → List T → List T → Type 0
LaidDown n value before after = (after ≡ value ∷ before) × (length before < n)

-- a word found what it needs, and did its work on the answers that wait
abbrev pub PutDown : (ℕ → ℕ → Bool) → RuleWord → List Bool → List Bool → Type 0
PutDown meets word before after = (after ≡ put_down meets word before) × (weigh (length before) word ≡ Some (length after))
