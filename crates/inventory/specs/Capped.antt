-- Counts and tiers: a level for each code, up to the code's top.
use Rattle.std.specs.Prelude.{ℕ, zero, suc, ◌+◌, ◌≤◌, min, cond, ◌&&◌, List, ◌==◌, nat_le, nat_lt, slice_index}
use Rattle.std.proofs.Common.{arith}
use Rattle.inventory.specs.Meaning.{Meaning}
use Rattle.inventory.specs.Keyset.{known}

-- a level up to a top
abbrev pub Level : ℕ → Type 0
Level top = (n : ℕ) × (n ≤ top)

-- n, or the top where n is above it
abbrev pub capped : (top : ℕ) → ℕ → Level top
capped top n = (min n top, omega arith)

-- the same top for the codes 0 to 31; a code with top 0 is unknown
abbrev pub up_to : ℕ → ℕ → ℕ
up_to top code = cond (known code) top 0

-- joined levels add up, to the top at most; a value is below one that is as high at every code; a level meets every amount up to it
abbrev pub levels : (ℕ → ℕ) → Meaning
levels top = record {
  Value = (c : ℕ) → Level (top c);
  neutral = λ c. capped (top c) 0;
  join = λ u v c. capped (top c) ((u c).0 + (v c).0);
  Below = λ u v. (c : ℕ) → (u c).0 ≤ (v c).0;
  grain = λ code c. capped (top c) (cond (c == code) 1 0);
  meets = λ v code n. nat_lt 0 (top code) && nat_le n (v code).0;
}

-- counts go up to 999, tiers up to 4
abbrev pub counts : Meaning
counts = levels (up_to 999)

abbrev pub tiers : Meaning
tiers = levels (up_to 4)

-- the levels that a table shows, under one top for the codes 0 to 31
abbrev pub levels_of : (top : ℕ) → List ℕ → (c : ℕ) → Level (up_to top c)
levels_of top level c = capped (up_to top c) (slice_index level c)

-- the levels of the codes below n, added up
abbrev pub sum_of_levels : (top : ℕ → ℕ) → ((c : ℕ) → Level (top c)) → ℕ → ℕ
sum_of_levels top v zero = 0
sum_of_levels top v (suc n) = sum_of_levels top v n + (v n).0
