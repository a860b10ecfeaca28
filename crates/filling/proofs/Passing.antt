-- Which places of a world pass a test that looks at their marks.
use Rattle.std.proofs.Common.{◌≡◌, ℕ, zero, suc, ◌+◌, ◌-◌, ◌<◌, ◌≤◌, Bool, true, false, cond, ◌&&◌, List, [], ◌∷◌, length, get_or, filter, sym, refl, subst, ap, ◌∙◌, arith}
use Rattle.std.specs.List.{range_with_len, AllByRecursion}
use Rattle.std.proofs.ByRecursion.{All-get_or}
use Rattle.std.proofs.lemmas.Bool.{cond_both, and_parts}
use Rattle.draw.specs.Source.{Source, Fair}
use Rattle.inventory.specs.Meaning.{Meaning}
use Rattle.model.specs.Fills.{candidates}
use Rattle.std.proofs.lemmas.List.{get_or-take}
use Rattle.model.specs.Worlds.{World as Atlas}
use Rattle.model.specs.Placements.{Placement, item_at}
use Rattle.model.specs.Boards.{no_item, gathered_with}
use Rattle.scratch.specs.Marks.{place_marks}
use Rattle.explore.specs.Marked.{places_in}
use Rattle.filling.specs.Steps.{fits_at, empty_marked, picked}

-- two tests that agree on the numbers of a range pass the same of them
pub filter_agrees : (f h : ℕ → Bool) (a n : ℕ) → ((k : ℕ) → k < a + n → f k ≡ h k) → filter f (range_with_len a n) ≡ filter h (range_with_len a n)
filter_agrees f h a zero same = refl
filter_agrees f h a (suc n) same =
    let rest = filter_agrees f h (a + 1) n (λ k lt. same k (omega arith)) in
    ap (λ b. cond b (a ∷ filter f (range_with_len (a + 1) n)) (filter f (range_with_len (a + 1) n))) (same a (omega arith))
    ∙ ap (λ l. cond (h a) (a ∷ l) l) rest

-- those from k on to below n
abbrev pub from_on : (ℕ → Bool) → ℕ → ℕ → List ℕ
from_on f n k = filter f (range_with_len k (n - k))

module _ (f : ℕ → Bool) (n : ℕ) where
  step : (k : ℕ) → k < n → from_on f n k ≡ cond (f k) (k ∷ from_on f n (k + 1)) (from_on f n (k + 1))
  step k h = let e : n - k ≡ suc (n - (k + 1)) = omega arith in ap (λ j. filter f (range_with_len k j)) e

  pub from_start : from_on f n 0 ≡ filter f (range_with_len 0 n)
  from_start = let e : n - 0 ≡ n = omega arith in ap (λ j. filter f (range_with_len 0 j)) e

  pub from_here : (k : ℕ) → k < n → f k ≡ true → from_on f n k ≡ k ∷ from_on f n (k + 1)
  from_here k h here = step k h ∙ ap (λ b. cond b (k ∷ from_on f n (k + 1)) (from_on f n (k + 1))) here

  pub from_next : (k : ℕ) → k < n → f k ≡ false → from_on f n k ≡ from_on f n (k + 1)
  from_next k h not_here = step k h ∙ ap (λ b. cond b (k ∷ from_on f n (k + 1)) (from_on f n (k + 1))) not_here

  pub from_end : (k : ℕ) → n ≤ k → from_on f n k ≡ []
  from_end k h = let e : n - k ≡ 0 = omega arith in ap (λ j. filter f (range_with_len k j)) e

-- the empty and marked places of the world from k on
abbrev pub rest_from : Atlas → Placement → List Bool → ℕ → List ℕ
rest_from w p g k = from_on (fits_at p g) (length w.places) k

pub rest_all : (w : Atlas) (p : Placement) (g : List Bool) → rest_from w p g 0 ≡ empty_marked w p g
unfolding empty_marked
rest_all w p g = from_start (fits_at p g) (length w.places)

module _ (w : Atlas) (p : Placement) (row : List ℕ) (k : ℕ) (h : k < length w.places) where
  -- a place of the world is marked just if its mark is set
  pub fits_marked : fits_at p (places_in w row) k ≡ fits_at p (place_marks row) k
  unfolding places_in
  fits_marked = ap (λ b. no_item (item_at p k) && b) (get_or-take (length w.places) (place_marks row) k false h)

  pub rest_here : true ≡ fits_at p (place_marks row) k → rest_from w p (places_in w row) k ≡ k ∷ rest_from w p (places_in w row) (k + 1)
  rest_here e = from_here (fits_at p (places_in w row)) (length w.places) k h (fits_marked ∙ sym e)

  pub rest_next : false ≡ fits_at p (place_marks row) k → rest_from w p (places_in w row) k ≡ rest_from w p (places_in w row) (k + 1)
  rest_next e = from_next (fits_at p (places_in w row)) (length w.places) k h (fits_marked ∙ sym e)

-- the marks of the world's own places are enough
pub own_marks : (w : Atlas) (p : Placement) (row : List ℕ) → filter (fits_at p (place_marks row)) (range_with_len 0 (length w.places)) ≡ empty_marked w p (places_in w row)
unfolding empty_marked
own_marks w p row = filter_agrees (fits_at p (place_marks row)) (fits_at p (places_in w row)) 0 (length w.places) (λ k lt. sym (fits_marked w p row k (omega arith)))

all_pass : (f : ℕ → Bool) (xs : List ℕ) → AllByRecursion (λ k. f k ≡ true) (filter f xs)
all_pass f [] = tt
all_pass f (x ∷ xs) = cond_both (f x) (x ∷ filter f xs) (filter f xs) (AllByRecursion (λ k. f k ≡ true)) (λ yes. (yes, all_pass f xs)) (λ no. all_pass f xs)

kept_passes : (f : ℕ → Bool) (xs : List ℕ) (j : ℕ) → j < length (filter f xs) → f (get_or (filter f xs) j 0) ≡ true
kept_passes f xs j h = All-get_or (λ k. f k ≡ true) (filter f xs) j 0 h (all_pass f xs)

-- each candidate is an empty place
candidate_empty : (m : Meaning) (w : Atlas) (p : Placement) (left found : List ℕ) (j : ℕ) → found ≡ candidates m w p left → j < length found → no_item (item_at p (get_or found j 0)) ≡ true
unfolding candidates
candidate_empty m w p left found j is h =
    let f = fits_at p (gathered_with m w p left) in
    let below : j < length (candidates m w p left) = subst (λ l. j < length l) is h in
    let passes = kept_passes f (range_with_len 0 (length w.places)) j below in
    ap (λ l. no_item (item_at p (get_or l j 0))) is ∙ (and_parts _ _ passes).0

-- and so is the one that is drawn
pub drawn_empty : (s : Source) (fair : Fair s) (x : s.State) (m : Meaning) (w : Atlas) (p : Placement) (left found : List ℕ) → found ≡ candidates m w p left → 0 < length found → no_item (item_at p (picked s x found)) ≡ true
unfolding picked
drawn_empty s fair x m w p left found is some = candidate_empty m w p left found _ is (fair.below x (length found) some)
