-- One mark more in a set.
use Rattle.std.proofs.Common.{◌≡◌, ℕ, zero, suc, ◌<◌, Bool, true, false, ◌⊎◌, List, [], ◌∷◌, length, take, set, replicate, sym, refl, ap, subst, inl, inr, suc-le-suc, le_of_suc-le-suc, not-suc-le-zero, arith}
use Rattle.std.proofs.lemmas.Bool.{both_ways}
use Rattle.model.specs.Marks.{at, In, Sub, count}
use Rattle.model.proofs.Sets.{count_le}

pub count_set : (s : List Bool) (k : ℕ) → k < length s → at s k ≡ false → count (set s k true) ≡ suc (count s)
count_set [] k h e = absurd (not-suc-le-zero h)
count_set (true ∷ s) zero h e = absurd (both_ways _ e refl)
count_set (false ∷ s) zero h e = refl
count_set (true ∷ s) (suc k) h e = ap suc (count_set s k (le_of_suc-le-suc h) e)
count_set (false ∷ s) (suc k) h e = count_set s k (le_of_suc-le-suc h) e

pub count_below : (s : List Bool) (k : ℕ) → k < length s → at s k ≡ false → count s < length s
count_below [] k h e = absurd (not-suc-le-zero h)
count_below (true ∷ s) zero h e = absurd (both_ways _ e refl)
count_below (false ∷ s) zero h e = suc-le-suc (count_le s)
count_below (true ∷ s) (suc k) h e = suc-le-suc (count_below s k (le_of_suc-le-suc h) e)
count_below (false ∷ s) (suc k) h e = let q = count_below s k (le_of_suc-le-suc h) e in omega arith

-- what was in the set is, and the new one
pub in_set_same : (s : List Bool) (k : ℕ) → k < length s → In (set s k true) k
in_set_same [] k h = absurd (not-suc-le-zero h)
in_set_same (b ∷ s) zero h = tt
in_set_same (b ∷ s) (suc k) h = in_set_same s k (le_of_suc-le-suc h)

pub in_set : (s : List Bool) (k : ℕ) → Sub s (set s k true)
in_set [] k j t = t
in_set (b ∷ s) zero zero t = tt
in_set (b ∷ s) zero (suc j) t = t
in_set (b ∷ s) (suc k) zero t = t
in_set (b ∷ s) (suc k) (suc j) t = in_set s k j t

pub in_set_cases : (s : List Bool) (k j : ℕ) → In (set s k true) j → In s j ⊎ (j ≡ k)
in_set_cases [] k j t = inl t
in_set_cases (b ∷ s) zero zero t = inr refl
in_set_cases (b ∷ s) zero (suc j) t = inl t
in_set_cases (b ∷ s) (suc k) zero t = inl t
in_set_cases (b ∷ s) (suc k) (suc j) t = elim (in_set_cases s k j t) [ inl u ↦ inl u | inr e ↦ inr (ap suc e) ]

-- a set inside another stays there with one more of it
pub set_inside : (s t : List Bool) (k : ℕ) → Sub s t → In t k → Sub (set s k true) t
set_inside s t k h i j u = elim (in_set_cases s k j u) [ inl v ↦ h j v | inr e ↦ subst (λ n. In t n) (sym e) i ]

-- nothing is in a set without marks
pub none_in : (n k : ℕ) → In (replicate n false) k → ⊥
none_in zero k t = t
none_in (suc n) zero t = t
none_in (suc n) (suc k) t = none_in n k t

-- the first marks, of which one is set
pub take_set_any : {X : Type 0} (n : ℕ) (xs : List X) (i : ℕ) (x : X) → take n (set xs i x) ≡ set (take n xs) i x
take_set_any zero xs i x = refl
take_set_any (suc n) [] i x = refl
take_set_any (suc n) (y ∷ xs) zero x = refl
take_set_any (suc n) (y ∷ xs) (suc i) x = ap (λ l. y ∷ l) (take_set_any n xs i x)
