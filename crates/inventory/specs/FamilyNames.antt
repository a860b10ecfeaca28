-- The names of the families.
use Rattle.std.specs.Prelude.{◌≡◌, ◌≢◌, ℕ, List, Result, codes, MatchResult}
use Rattle.inventory.specs.declared.family.Family.{Family}
use Rattle.inventory.specs.declared.family.Family.TheVariants.{Key, Count, Tier}
use Rattle.inventory.specs.declared.family.NoSuchFamily.{NoSuchFamily}

-- a family's name
abbrev pub name_of : Family → List ℕ
name_of Key = codes "key"
name_of Count = codes "count"
name_of Tier = codes "tier"

-- a text reads as the family whose name it is, and as none where it is no family's name
abbrev pub ReadsFamily : List ℕ → Result Family NoSuchFamily → Type 0
ReadsFamily text r = MatchResult r (λ family. text ≡ name_of family) (λ _. (family : Family) → text ≢ name_of family)
