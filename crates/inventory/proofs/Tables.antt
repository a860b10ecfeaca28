-- A table of levels, after one item more.
use Rattle.std.proofs.Common.{◌≡◌, ℕ, ◌+◌, ◌<◌, ◌≤◌, min, Bool, true, false, cond, eqb, List, length, get_or, set, sym, refl, subst, inl, inr, arith}
use Rattle.std.proofs.lemmas.List.{get_or-set_same, get_or-set_other}
use Rattle.std.proofs.lemmas.Bool.{eqb-true, eqb-false, cond-true, cond-false, lt-ltb, le-ltb, cases_lt}
use Rattle.inventory.specs.Keyset.{known}
use Rattle.inventory.specs.Capped.{levels, up_to, levels_of}
use Rattle.inventory.specs.CappedLaws.{same_levels}

one_more : (t l l' : ℕ) (here : Bool) → (here ≡ true → l' ≡ l + 1) → (here ≡ false → l' ≡ l)
    → min l' t ≡ min (min l t + min (cond here 1 0) t) t
one_more t l l' true f g = omega (arith, f refl)
one_more t l l' false f g = omega (arith, g refl)

at_top : (t l : ℕ) (here : Bool) → (here ≡ true → t ≤ l) → min l t ≡ min (min l t + min (cond here 1 0) t) t
at_top t l true f = omega (arith, f refl)
at_top t l false f = omega arith

-- a level is as high as its code's top, where it is as high as the top of the codes that are known
topped : (top code l : ℕ) → (code < 32 → top ≤ l) → up_to top code ≤ l
topped top code l h = elim (cases_lt code 32) [
  | inl known_code ↦ omega (arith, cond-true (known code) top 0 (lt-ltb code 32 known_code), h known_code)
  | inr unknown ↦ omega (arith, cond-false (known code) top 0 (le-ltb code 32 unknown))
]

-- the code's level raised by one
pub raised : (top : ℕ) (xs : List ℕ) (code i : ℕ) → i ≡ code → i < length xs
    → levels_of top (set xs i (get_or xs i 0 + 1)) ≡ (levels (up_to top)).join (levels_of top xs) ((levels (up_to top)).grain code)
raised top xs code i same h = same_levels _ _ (λ c. one_more (up_to top c) (get_or xs c 0) _ (eqb c code)
    (λ e. subst (λ x. get_or (set xs i (get_or xs i 0 + 1)) x 0 ≡ get_or xs x 0 + 1) (omega (arith, eqb-true c code e)) (get_or-set_same xs i (get_or xs i 0 + 1) 0 h))
    (λ e. get_or-set_other xs i c (get_or xs i 0 + 1) 0 (λ p. eqb-false c code e (omega arith))))

-- the code at its top already
pub full : (top : ℕ) (xs : List ℕ) (code : ℕ) → (code < 32 → top ≤ get_or xs code 0)
    → levels_of top xs ≡ (levels (up_to top)).join (levels_of top xs) ((levels (up_to top)).grain code)
full top xs code h = same_levels _ _ (λ c. at_top (up_to top c) (get_or xs c 0) (eqb c code)
    (λ e. subst (λ x. up_to top x ≤ get_or xs x 0) (sym (eqb-true c code e)) (topped top code (get_or xs code 0) h)))
