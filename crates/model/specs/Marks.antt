-- Sets of regions and of places: a yes or no for each number below a list's length.
use Rattle.std.specs.Prelude.{ℕ, zero, suc, Bool, true, false, cond, ◌&&◌, ◌||◌, T, List, [], ◌∷◌, Some, None, Option, slice_index_or}

-- whether k is in the set
abbrev pub at : List Bool → ℕ → Bool
at s k = slice_index_or s k false

-- k is in the set
abbrev pub In : List Bool → ℕ → Type 0
In s k = T (at s k)

-- what is in the one set is in the other
abbrev pub Sub : List Bool → List Bool → Type 0
Sub s t = (k : ℕ) → In s k → In t k

-- the numbers below n that pass the test
abbrev pub tabulate : ℕ → (ℕ → Bool) → List Bool
tabulate zero f = []
tabulate (suc n) f = f 0 ∷ tabulate n (λ i. f (suc i))

-- how many are in the set
abbrev pub count : List Bool → ℕ
count [] = 0
count (true ∷ s) = suc (count s)
count (false ∷ s) = count s

-- whether some element passes the test
abbrev pub any : {A : Type 0} → (A → Bool) → List A → Bool
any f [] = false
any f (x ∷ xs) = f x || any f xs

-- whether every element passes the test
abbrev pub every : {A : Type 0} → (A → Bool) → List A → Bool
every f [] = true
every f (x ∷ xs) = f x && every f xs

-- f done n times
abbrev pub iterate : {A : Type 0} → ℕ → (A → A) → A → A
iterate zero f x = x
iterate (suc n) f x = f (iterate n f x)

-- the first of the n numbers from k on that passes the test
abbrev pub first : ℕ → ℕ → (ℕ → Bool) → Option ℕ
first zero k f = None
first (suc n) k f = cond (f k) (Some k) (first n (suc k) f)

-- how many work marks a call has to be lent: 64 for regions and 256 for places
abbrev pub work_marks : ℕ
work_marks = 320
