-- What lies in a set of places, from one place of a placement to the next.
use Rattle.std.proofs.Common.{◌≡◌, ℕ, zero, suc, ◌+◌, ◌<◌, ◌≤◌, Bool, true, false, cond, ◌&&◌, ◌||◌, eqb, List, [], ◌∷◌, length, take, drop, Some, None, Option, sym, refl, ap, ◌∙◌, inl, inr, le_of_suc-le-suc, not-suc-le-zero, add-one, arith}
use Rattle.std.specs.List.{list_any, enumerate_from}
use Rattle.std.proofs.Math.Seq.{drop-cons}
use Rattle.std.proofs.lemmas.List.{drop_all, get_or_past}
use Rattle.std.proofs.lemmas.Bool.{and_right, or_from, cases_lt}
use Rattle.inventory.specs.Meaning.{Meaning}
use Rattle.model.specs.Marks.{at, any}
use Rattle.model.specs.Worlds.{World as Atlas, with_items}
use Rattle.model.specs.Placements.{Placement, item_at, lying}
use Rattle.model.specs.Boards.{is_item}
use Rattle.explore.specs.Gathering.{with_item}

pub lying_nowhere : (p : Placement) → lying p [] ≡ []
lying_nowhere [] = refl
lying_nowhere (o ∷ p) = refl

pub lying_end : (p : Placement) (s : List Bool) (k : ℕ) → length p ≤ k → lying (drop k p) (drop k s) ≡ []
lying_end p s k h = ap (λ l. lying l (drop k s)) (drop_all k p h)

pub lying_past : (p : Placement) (s : List Bool) (k : ℕ) → length s ≤ k → lying (drop k p) (drop k s) ≡ []
lying_past p s k h = ap (lying (drop k p)) (drop_all k s h) ∙ lying_nowhere (drop k p)

-- what lies behind a set's end counts for nothing
pub lying_own : (p : Placement) (s : List Bool) (n : ℕ) → length s ≤ n → lying (take n p) s ≡ lying p s
lying_own p [] n h = lying_nowhere (take n p) ∙ sym (lying_nowhere p)
lying_own p (b ∷ s) zero h = absurd (omega arith)
lying_own [] (b ∷ s) (suc n) h = refl
lying_own (None ∷ p) (b ∷ s) (suc n) h = lying_own p s n (omega arith)
lying_own (Some i ∷ p) (true ∷ s) (suc n) h = ap (λ (l : List ℕ). i ∷ l) (lying_own p s n (omega arith))
lying_own (Some i ∷ p) (false ∷ s) (suc n) h = lying_own p s n (omega arith)

same_either_way : {X : Type 0} (b : Bool) (x : X) → cond b x x ≡ x
same_either_way true x = refl
same_either_way false x = refl

module _ (m : Meaning) (w : Atlas) (v : m.Value) where
  step : (p : Placement) (s : List Bool) (k : ℕ)
      → with_items m w (cond (at s k) (with_item m w v (item_at p k)) v) (lying (drop (suc k) p) (drop (suc k) s)) ≡ with_items m w v (lying (drop k p) (drop k s))
  step [] s zero = same_either_way (at s 0) v
  step [] s (suc k) = same_either_way (at s (suc k)) v
  step (o ∷ p) [] zero = ap (with_items m w v) (lying_nowhere p)
  step (o ∷ p) [] (suc k) = ap (with_items m w v) (lying_nowhere (drop (suc k) p) ∙ sym (lying_nowhere (drop k p)))
  step (None ∷ p) (true ∷ s) zero = refl
  step (None ∷ p) (false ∷ s) zero = refl
  step (Some i ∷ p) (true ∷ s) zero = refl
  step (Some i ∷ p) (false ∷ s) zero = refl
  step (o ∷ p) (b ∷ s) (suc k) = step p s k

  -- the item at place k, if the place is in the set, and then those after it
  pub lying_step : (p : Placement) (s : List Bool) (k : ℕ) (b : Bool) → at s k ≡ b
      → with_items m w (cond b (with_item m w v (item_at p k)) v) (lying (drop (k + 1) p) (drop (k + 1) s)) ≡ with_items m w v (lying (drop k p) (drop k s))
  lying_step p s k b marked = rw (add-one, ← marked) (step p s k)

-- whether an item lies in a set of places
module _ (i : ℕ) (s : List Bool) where
  -- whether it lies at a place of the set, by the place's number
  abbrev pub lies : ℕ × Option ℕ → Bool
  lies q = is_item i q.1 && at s q.0

  lying_first : (o : Option ℕ) (p : Placement) (b : Bool) (t : List Bool) → ((is_item i o && b) || any (eqb i) (lying p t)) ≡ any (eqb i) (lying (o ∷ p) (b ∷ t))
  lying_first None p b t = refl
  lying_first (Some j) p true t = ap (λ x. x || any (eqb i) (lying p t)) (elim (eqb i j) as (λ x. (x && true) ≡ x) [ true ↦ refl | false ↦ refl ])
  lying_first (Some j) p false t = ap (λ x. x || any (eqb i) (lying p t)) (and_right (eqb i j) false refl)

  pub lies_in : (p : Placement) (n : ℕ) → list_any lies (enumerate_from n p) ≡ any (eqb i) (lying p (drop n s))
  lies_in [] n = refl
  lies_in (o ∷ p) n =
      ap (λ x. lies (n, o) || x) (lies_in p (n + 1)) ∙ elim (cases_lt n (length s)) [
        | inl h ↦ ap (λ k. lies (n, o) || any (eqb i) (lying p (drop k s))) (add-one n) ∙ lying_first o p (at s n) (drop (suc n) s) ∙ ap (λ t. any (eqb i) (lying (o ∷ p) t)) (sym (drop-cons s n false h))
        | inr past ↦ ap (λ x. (is_item i o && x) || any (eqb i) (lying p (drop (n + 1) s))) (get_or_past s n false past)
            ∙ ap (λ x. x || any (eqb i) (lying p (drop (n + 1) s))) (and_right (is_item i o) false refl)
            ∙ ap (λ t. any (eqb i) (lying p t)) (drop_all (n + 1) s (omega arith)) ∙ ap (any (eqb i)) (lying_nowhere p)
            ∙ sym (ap (λ t. any (eqb i) (lying (o ∷ p) t)) (drop_all n s past))
      ]

-- whether an item lies at place k, if the place is in the set, or after it
module _ (i : ℕ) where
  found_at : (p : Placement) (s : List Bool) (k : ℕ) → k < length s
      → any (eqb i) (lying (drop k p) (drop k s)) ≡ ((at s k && is_item i (item_at p k)) || any (eqb i) (lying (drop (suc k) p) (drop (suc k) s)))
  found_at p [] k h = absurd (not-suc-le-zero h)
  found_at [] (true ∷ s) zero h = refl
  found_at [] (false ∷ s) zero h = refl
  found_at (None ∷ p) (true ∷ s) zero h = refl
  found_at (None ∷ p) (false ∷ s) zero h = refl
  found_at (Some j ∷ p) (true ∷ s) zero h = refl
  found_at (Some j ∷ p) (false ∷ s) zero h = refl
  found_at [] (b ∷ s) (suc k) h = sym (or_from (at s k && false) false (and_right (at s k) false refl) refl)
  found_at (o ∷ p) (b ∷ s) (suc k) h = found_at p s k (le_of_suc-le-suc h)

  pub found_step : (p : Placement) (s : List Bool) (k : ℕ) → k < length s
      → any (eqb i) (lying (drop k p) (drop k s)) ≡ ((at s k && is_item i (item_at p k)) || any (eqb i) (lying (drop (k + 1) p) (drop (k + 1) s)))
  found_step p s k h = found_at p s k h ∙ ap (λ n. (at s k && is_item i (item_at p k)) || any (eqb i) (lying (drop n p) (drop n s))) (sym (add-one k))
