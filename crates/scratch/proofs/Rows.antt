-- Marks in a row of bytes.
use Rattle.std.proofs.Common.{◌≡◌, ℕ, zero, suc, ◌<◌, ◌≤◌, true, false, not, eqb, List, [], ◌∷◌, ◌++◌, length, get_or, take, set, replicate, refl, ap, sym, ◌∙◌, inl, inr, arith}
use Rattle.std.proofs.lemmas.Bool.{cases_lt}
use Rattle.std.proofs.lemmas.List.{get_or_default, get_or_past, set_past, same_lists, length-replicate, get_or-replicate}
use Rattle.scratch.specs.Marks.{marked}

pub take_set : {X : Type 0} (n : ℕ) (xs : List X) (i : ℕ) (x : X) → take n (set xs i x) ≡ set (take n xs) i x
take_set zero xs i x = refl
take_set (suc n) [] i x = refl
take_set (suc n) (y ∷ xs) zero x = refl
take_set (suc n) (y ∷ xs) (suc i) x = ap (λ l. y ∷ l) (take_set n xs i x)

-- a row of one value
pub filled : (n v : ℕ) (row : List ℕ) → length row ≡ n → ((k d : ℕ) → k < n → get_or row k d ≡ v) → row ≡ replicate n v
filled n v row size each =
    same_lists row (replicate n v) (size ∙ sym (length-replicate n v)) (λ k d h.
    let below : k < n = omega arith in
    each k d below ∙ sym (get_or-replicate n k v d below))

pub length_marked : (n : ℕ) (row : List ℕ) → length (marked n row) ≡ n
unfolding marked
length_marked zero row = refl
length_marked (suc n) [] = ap suc (length_marked n [])
length_marked (suc n) (byte ∷ row) = ap suc (length_marked n row)

pub read : (n : ℕ) (row : List ℕ) (i : ℕ) → i < n → not (eqb (get_or row i 0) 0) ≡ get_or (marked n row) i false
unfolding marked
read zero row i lt = absurd (omega arith)
read (suc n) row zero lt = refl
read (suc n) [] (suc i) lt = read n [] i (omega arith)
read (suc n) (byte ∷ row) (suc i) lt = read n row i (omega arith)

pub read_past : (n : ℕ) (row : List ℕ) (i : ℕ) → n ≤ i → false ≡ get_or (marked n row) i false
read_past n row i past =
    let beyond : length (marked n row) ≤ i = omega (arith, length_marked n row) in
    sym (get_or_past (marked n row) i false beyond)

pub write : (n : ℕ) (row : List ℕ) (i : ℕ) → i < n → n ≤ length row → marked n (set row i 1) ≡ set (marked n row) i true
unfolding marked
write zero row i lt enough = absurd (omega arith)
write (suc n) [] i lt enough = absurd (omega arith)
write (suc n) (byte ∷ row) zero lt enough = refl
write (suc n) (byte ∷ row) (suc i) lt enough = ap (λ l. not (eqb byte 0) ∷ l) (write n row i (omega arith) (omega arith))

pub write_past : (n : ℕ) (row : List ℕ) (i : ℕ) → n ≤ i → marked n row ≡ set (marked n row) i true
write_past n row i past =
    let beyond : length (marked n row) ≤ i = omega (arith, length_marked n row) in
    sym (set_past (marked n row) i true beyond)

pub write_behind : (n : ℕ) (row : List ℕ) (i : ℕ) → n ≤ i → marked n (set row i 1) ≡ marked n row
unfolding marked
write_behind zero row i past = refl
write_behind (suc n) [] i past = refl
write_behind (suc n) (byte ∷ row) zero past = absurd (omega arith)
write_behind (suc n) (byte ∷ row) (suc i) past = ap (λ l. not (eqb byte 0) ∷ l) (write_behind n row i (omega arith))

-- of a row that is long enough the number may be any, and so may what is read past its end
pub write_any : (n : ℕ) (row : List ℕ) (i : ℕ) → n ≤ length row → marked n (set row i 1) ≡ set (marked n row) i true
write_any n row i enough = elim (cases_lt i n) [ inl lt ↦ write n row i lt enough | inr past ↦ write_behind n row i past ∙ write_past n row i past ]

pub read_any : (n : ℕ) (row : List ℕ) (i x : ℕ) → i < n → n ≤ length row → not (eqb (get_or row i x) 0) ≡ get_or (marked n row) i false
read_any n row i x lt enough = ap (λ byte. not (eqb byte 0)) (get_or_default row i x 0 (omega arith)) ∙ read n row i lt

pub wiped_row : (n : ℕ) → marked n (replicate n 0) ≡ replicate n false
unfolding marked
wiped_row zero = refl
wiped_row (suc n) = ap (λ l. false ∷ l) (wiped_row n)

-- what lies behind the row is not read
pub wiped_front : (n : ℕ) (row rest : List ℕ) → row ≡ replicate n 0 → marked n (row ++ rest) ≡ replicate n false
unfolding marked
wiped_front zero row rest e = refl
wiped_front (suc n) row rest e = ap (λ l. marked (suc n) (l ++ rest)) e ∙ ap (λ l. false ∷ l) (wiped_front n (replicate n 0) rest refl)
