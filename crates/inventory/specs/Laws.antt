-- What is shown of the inventories, beside the laws of a lawful one.
use Rattle.std.specs.Prelude.{◌≡◌, ℕ, ◌+◌, ◌*◌, ◌<◌, ◌≤◌, min, true, false, replicate}
use Rattle.inventory.specs.declared.family.Family.{Family}
use Rattle.inventory.specs.declared.family.Family.TheVariants.{Key, Count, Tier}
use Rattle.inventory.specs.Meaning.{Meaning, Lawful, held, with_codes, Unknown}
use Rattle.inventory.specs.Keyset.{keys}
use Rattle.inventory.specs.Capped.{levels, counts, tiers}
use Rattle.inventory.specs.Paired.{paired}
use Rattle.inventory.specs.Barren.{barren}
use Rattle.inventory.specs.Families.{of_worlds, code_of}

-- Codes from 32 on are unknown to keys, counts and tiers, and so are the codes of such kinds in a world's inventory.
pub record UnknownCodes : Type 0 where
  pub to_keys : (code : ℕ) → 32 ≤ code → Unknown keys code
  pub to_counts : (code : ℕ) → 32 ≤ code → Unknown counts code
  pub to_tiers : (code : ℕ) → 32 ≤ code → Unknown tiers code
  pub to_worlds : (f : Family) (n : ℕ) → 32 ≤ n → Unknown of_worlds (code_of f n)

-- Each code of a pair is one side's: its item is worth there what it is worth to that side, and nothing to the other.
pub record SplitCodes (l r : Meaning) : Type 0 where
  pub left_grain : (c : ℕ) → (paired l r).grain (2 * c) ≡ (l.grain c, r.neutral)
  pub right_grain : (c : ℕ) → (paired l r).grain (2 * c + 1) ≡ (l.neutral, r.grain c)
  pub left_meets : (v : (paired l r).Value) (c n : ℕ) → (paired l r).meets v (2 * c) n ≡ l.meets v.0 c n
  pub right_meets : (v : (paired l r).Value) (c n : ℕ) → (paired l r).meets v (2 * c + 1) n ≡ r.meets v.1 c n
  pub left_unknown : (c : ℕ) → Unknown l c → Unknown (paired l r) (2 * c)
  pub right_unknown : (c : ℕ) → Unknown r c → Unknown (paired l r) (2 * c + 1)

-- A kind of a world is its family's own: key n is code n of the keys, and likewise for counts and tiers.
pub record FamilyCodes : Type 0 where
  pub key : (v : of_worlds.Value) (n amount : ℕ) → of_worlds.meets v (code_of Key n) amount ≡ keys.meets v.0 n amount
  pub count : (v : of_worlds.Value) (n amount : ℕ) → of_worlds.meets v (code_of Count n) amount ≡ counts.meets v.1.0 n amount
  pub tier : (v : of_worlds.Value) (n amount : ℕ) → of_worlds.meets v (code_of Tier n) amount ≡ tiers.meets v.1.1 n amount
  pub one_key : (n : ℕ) → of_worlds.grain (code_of Key n) ≡ (keys.grain n, (counts.neutral, tiers.neutral))
  pub one_count : (n : ℕ) → of_worlds.grain (code_of Count n) ≡ (keys.neutral, (counts.grain n, tiers.neutral))
  pub one_tier : (n : ℕ) → of_worlds.grain (code_of Tier n) ≡ (keys.neutral, (counts.neutral, tiers.grain n))

-- What the families meet: a key once it is there, in amount 1 alone; of n equal items the level is n, or the top.
pub record Met (top : ℕ → ℕ) : Type 0 where
  pub keys_met : (c : ℕ) → c < 32 → held keys (keys.grain c) c 1 ≡ true
  pub keys_once : (v : keys.Value) (c n : ℕ) → 2 ≤ n → held keys v c n ≡ false
  pub level : (c n : ℕ) → (with_codes (levels top) (levels top).neutral (replicate n c) c).0 ≡ min n (top c)
  pub amounts_met : (c n amount : ℕ) → 0 < amount → amount ≤ n → amount ≤ top c
      → held (levels top) (with_codes (levels top) (levels top).neutral (replicate n c)) c amount ≡ true
  pub amounts_unmet : (v : (levels top).Value) (c amount : ℕ) → top c < amount → held (levels top) v c amount ≡ false

-- five tiers of one code have level 4
abbrev pub FiveTiers : Type 0
FiveTiers = (c : ℕ) → c < 32 → (with_codes tiers tiers.neutral (replicate 5 c) c).0 ≡ 4

-- a lawful inventory that meets nothing
pub record MeetsNothing : Type 0 where
  pub lawful : Lawful barren
  pub never : (v : barren.Value) (code n : ℕ) → held barren v code n ≡ false
