-- The inventory of a world: its three families of kinds, and their codes.
use Rattle.std.specs.Prelude.{ℕ, ◌+◌, ◌*◌}
use Rattle.inventory.specs.declared.family.Family.{Family}
use Rattle.inventory.specs.declared.family.Family.TheVariants.{Key, Count, Tier}
use Rattle.inventory.specs.Meaning.{Meaning}
use Rattle.inventory.specs.Keyset.{keys}
use Rattle.inventory.specs.Capped.{counts, tiers}
use Rattle.inventory.specs.Paired.{paired}

-- keys on the left; on the right, counts on the left and tiers on the right
abbrev pub of_worlds : Meaning
of_worlds = paired keys (paired counts tiers)

-- the code of kind n of a family
abbrev pub code_of : Family → ℕ → ℕ
code_of Key n = 2 * n
code_of Count n = 4 * n + 1
code_of Tier n = 4 * n + 3
