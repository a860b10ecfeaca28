-- How many kinds a family has, once there is one more.
use Rattle.std.proofs.Common.{◌≡◌, ℕ, ◌<◌, ◌≤◌, Bool, true, false, cond, List, [], ◌∷◌, ◌++◌, count_by, arith}
use Rattle.std.proofs.lemmas.List.Sums.{sum_by_push}
use Rattle.std.proofs.lemmas.Bool.{cond-false, ne_eqb}
use Rattle.inventory.specs.declared.family.Family.{Family}
use Rattle.inventory.specs.declared.family.Family.TheVariants.{Key, Count, Tier}
use Rattle.inventory.specs.Families.{code_of}
use Rattle.model.specs.Proper.{of_family}

one_at_most : (b : Bool) → cond b 1 0 ≤ 1
one_at_most true = omega arith
one_at_most false = omega arith

-- one kind more of any code
one_more : (g : Family) (kinds : List ℕ) (code : ℕ) → count_by (of_family g) kinds < 32 → count_by (of_family g) (kinds ++ code ∷ []) ≤ 32
one_more g kinds code h = omega (arith, sum_by_push (λ (c : ℕ). cond (of_family g c) 1 0) kinds code, one_at_most (of_family g code))

-- one kind more of another family
no_more : (g : Family) (kinds : List ℕ) (code : ℕ) → of_family g code ≡ false → count_by (of_family g) kinds ≤ 32 → count_by (of_family g) (kinds ++ code ∷ []) ≤ 32
no_more g kinds code e h = omega (arith, sum_by_push (λ (c : ℕ). cond (of_family g c) 1 0) kinds code, cond-false {A = ℕ} (of_family g code) 1 0 e)

pub still_few : (f g : Family) (kinds : List ℕ) (n : ℕ) → count_by (of_family f) kinds < 32 → count_by (of_family g) kinds ≤ 32 → count_by (of_family g) (kinds ++ code_of f n ∷ []) ≤ 32
still_few Key Key kinds n h k = one_more Key kinds (code_of Key n) h
still_few Key Count kinds n h k = no_more Count kinds (code_of Key n) (ne_eqb _ _ (λ e. omega arith)) k
still_few Key Tier kinds n h k = no_more Tier kinds (code_of Key n) (ne_eqb _ _ (λ e. omega arith)) k
still_few Count Key kinds n h k = no_more Key kinds (code_of Count n) (ne_eqb _ _ (λ e. omega arith)) k
still_few Count Count kinds n h k = one_more Count kinds (code_of Count n) h
still_few Count Tier kinds n h k = no_more Tier kinds (code_of Count n) (ne_eqb _ _ (λ e. omega arith)) k
still_few Tier Key kinds n h k = no_more Key kinds (code_of Tier n) (ne_eqb _ _ (λ e. omega arith)) k
still_few Tier Count kinds n h k = no_more Count kinds (code_of Tier n) (ne_eqb _ _ (λ e. omega arith)) k
still_few Tier Tier kinds n h k = one_more Tier kinds (code_of Tier n) h
