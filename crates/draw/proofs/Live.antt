-- A 64-bit xorshift of a number that is not 0 is not 0, since each of its steps gives 0 only at 0.
use Rattle.std.proofs.Common.{◌≡◌, ℕ, zero, suc, ◌+◌, ◌*◌, ◌/◌, ◌%◌, ◌^◌, ◌<◌, sym, ap, ◌∙◌, ap₂, inl, inr, add-zero, mod-lt, mul_assoc, add-one, arith}
use native.Mathlib.Nat.{pow-succ'}
use lib.Bits.{bit_xor, xor_assoc, xor_self, xor_zero_r, xor_lt, shifted_half, shifted_even}
use Rattle.std.proofs.lemmas.Nat.{mod-pow-add, pow_pos}
use Rattle.std.proofs.lemmas.Bool.{cases_lt}
use Rattle.draw.specs.Xorshift.{shift_left, shift_right, xorshift}

-- numbers whose xor is 0 are equal
xor_none : (a b : ℕ) → bit_xor a b ≡ 0 → a ≡ b
xor_none a b e =
    sym (ap (bit_xor a) (xor_self b) ∙ xor_zero_r a) ∙ sym (xor_assoc a b b) ∙ ap (λ (x : ℕ). bit_xor x b) e

-- in w bits only 0 is itself shifted to the left: such a number is even, and its half is one in a bit less
shift_fixed : (k w s : ℕ) → s < 2 ^ w → s ≡ (s * 2 ^ suc k) % 2 ^ w → s ≡ 0
shift_fixed k zero s h e = omega arith
shift_fixed k (suc w) s h e =
    let t : ℕ = (s * 2 ^ k) % 2 ^ w in
    let split = mod-pow-add (s * 2 ^ suc k) w 1 in
    let halves = ap₂ (λ (x y : ℕ). (x % 2 ^ w) * 2 + y) (shifted_half s k) (shifted_even s k) in
    let even : s ≡ t * 2 = e ∙ ap (λ (m : ℕ). (s * 2 ^ suc k) % 2 ^ m) (sym (add-one w)) ∙ split ∙ halves ∙ add-zero (t * 2) in
    let regroup : (t * 2) * 2 ^ k ≡ t * 2 ^ suc k = mul_assoc t 2 (2 ^ k) ∙ ap (λ (x : ℕ). t * x) (sym (pow-succ' 2 k)) in
    let again : t ≡ (t * 2 ^ suc k) % 2 ^ w = ap (λ (x : ℕ). (x * 2 ^ k) % 2 ^ w) even ∙ ap (λ (x : ℕ). x % 2 ^ w) regroup in
    let none : t ≡ 0 = shift_fixed k w t (mod-lt (s * 2 ^ k) (pow_pos w)) again in
    omega arith

left_live : (k s : ℕ) → 0 < s → s < 2 ^ 64 → 0 < shift_left (suc k) s
left_live k s p h =
    elim (cases_lt 0 (shift_left (suc k) s)) [
      | inl live ↦ live
      | inr none ↦ omega (arith, shift_fixed k 64 s h (xor_none s _ (omega arith)))
    ]

right_live : (s : ℕ) → 0 < s → 0 < shift_right 7 s
right_live s p =
    elim (cases_lt 0 (shift_right 7 s)) [
      | inl live ↦ live
      | inr none ↦ omega (arith, xor_none s (s / 2 ^ 7) (omega arith))
    ]

left_fits : (k s : ℕ) → s < 2 ^ 64 → shift_left k s < 2 ^ 64
left_fits k s h = xor_lt 64 s _ h (mod-lt (s * 2 ^ k) (pow_pos 64))

right_fits : (s : ℕ) → s < 2 ^ 64 → shift_right 7 s < 2 ^ 64
right_fits s h = xor_lt 64 s _ h (omega arith)

pub xorshift_live : (s : ℕ) → 0 < s → s < 2 ^ 64 → 0 < xorshift s
xorshift_live s p h =
    left_live 16 _ (right_live _ (left_live 12 s p h)) (right_fits _ (left_fits 13 s h))
