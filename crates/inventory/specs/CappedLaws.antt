-- Counts and tiers are lawful inventories, whatever the tops.
use Rattle.std.specs.Prelude.{◌≡◌, ℕ, ◌≤◌, nat_lt}
use mathlib.Core.HLevel.{Σ_prop_path}
use Rattle.std.proofs.Math.Bridge.{le_prop}
use Rattle.std.proofs.Common.{arith, leb→le, le→leb}
use Rattle.inventory.specs.Meaning.{Lawful}
use Rattle.inventory.specs.KeysetLaws.{and_mono}
use Rattle.inventory.specs.Capped.{Level, levels}

-- two levels are equal where their numbers are
pub same_level : {top : ℕ} (a b : Level top) → a.0 ≡ b.0 → a ≡ b
same_level {top = top} a b e = Σ_prop_path {B = λ n. n ≤ top} (λ n. le_prop) {u = a} {v = b} e

-- two values are equal where the numbers are, code by code
pub same_levels : {top : ℕ → ℕ} (u v : (c : ℕ) → Level (top c)) → ((c : ℕ) → (u c).0 ≡ (v c).0) → u ≡ v
same_levels u v h = λ i c. same_level (u c) (v c) (h c) i

pub levels_lawful : (top : ℕ → ℕ) → Lawful (levels top)
levels_lawful top = record {
  assoc = λ u v w. same_levels _ _ (λ c. omega (arith, (u c).1, (w c).1));
  comm = λ u v. same_levels _ _ (λ c. omega arith);
  neutral = λ v. same_levels _ _ (λ c. omega (arith, (v c).1));
  reflexive = λ v c. omega arith;
  transitive = λ u v w p q c. omega (arith, p c, q c);
  grows = λ u v c. omega (arith, (u c).1);
  monotone = λ u v w p c. omega (arith, p c);
  keeps = λ u v code n p. and_mono (nat_lt 0 (top code)) _ _ (λ t. le→leb n (v code).0 (omega (arith, p code, leb→le n (u code).0 t)));
}
