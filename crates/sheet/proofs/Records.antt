-- Place records after one of them has changed.
use Rattle.std.proofs.Common.{◌≡◌, ℕ, zero, suc, Bool, ◌<◌, ◌≤◌, true, false, not, ◌||◌, eqb, ltb, nat_eq, ◌⊎◌, [], ◌∷◌, length, take, set, Some, None, Option, sym, refl, ap, ◌∙◌, inl, inr, arith, length-take, get_or-take}
use Rattle.std.proofs.lemmas.List.{get_or_past, get_or-set_same, get_or-set_other, set_past}
use Rattle.std.proofs.lemmas.Option.{none-some}
use Rattle.std.proofs.lemmas.Bool.{false≢true, cases_lt, cases_eq, or_cases, eq-eqb, eqb-true, ltb-true, and_parts, not-true, or_left, or_right, both_ways}
use Rattle.model.specs.Placements.{Placement, item_at, Once}
use Rattle.std.specs.List.{list_any}
use Rattle.std.specs.Option.{option_eq}
use Rattle.std.proofs.lemmas.List.Recursion.{same_from_clauses}
use Rattle.std.proofs.lemmas.Bool.Decides.{nat_tests}
use Rattle.model.specs.Marks.{any}
use Rattle.model.specs.Boards.{is_item, is_set}
use Rattle.sheet.specs.Records.{may_lie}

-- what lies nowhere behind the first n records is found among them
pub item_within : (p : Placement) (n k : ℕ) → ((j : ℕ) → n ≤ j → item_at p j ≡ None) → item_at (take n p) k ≡ item_at p k
item_within p n k none =
    elim (cases_lt k n) [
      | inl h ↦ get_or-take n p k None h
      | inr h ↦ get_or_past (take n p) k None (omega (arith, length-take n p)) ∙ sym (none k h)
    ]

-- an item that lies somewhere is set
pub found_set : (p : Placement) (i k : ℕ) → item_at p k ≡ Some i → is_set p i ≡ true
unfolding is_set
found_set [] i k e = absurd (none-some i e)
found_set (None ∷ p) i zero e = absurd (none-some i e)
found_set (Some j ∷ p) i zero e = let same : i ≡ j = cc in or_left (eqb i j) (is_set p i) (eq-eqb i j same)
found_set (o ∷ p) i (suc k) e = or_right (is_item i o) (is_set p i) (found_set p i k e)

-- what a search for that item answers is whether it is set
search_is : (p : Placement) (i : ℕ) → list_any (λ o. option_eq nat_eq o (Some i)) p ≡ is_set p i
unfolding is_set
search_is p i =
    same_from_clauses (list_any (λ o. option_eq nat_eq o (Some i))) (any (is_item i)) (λ o b. is_item i o || b) refl (λ o p. ap (λ b. b || list_any (λ x. option_eq nat_eq x (Some i)) p) (same_item o)) (λ o p. refl) p
  where
    same_item : (o : Option ℕ) → option_eq nat_eq o (Some i) ≡ is_item i o
    same_item None = refl
    same_item (Some j) = grind (arith, nat_tests)

pub found_is : (answer : Bool) (p q : Placement) (i : ℕ) → answer ≡ list_any (λ o. option_eq nat_eq o (Some i)) p → p ≡ q → answer ≡ is_set q i
found_is answer p q i found same = found ∙ search_is p i ∙ ap (λ x. is_set x i) same

-- an item that is not set lies nowhere
pub not_found : (p : Placement) (i k : ℕ) → is_set p i ≡ false → item_at p k ≡ Some i → ⊥
not_found p i k unset e = both_ways (is_set p i) unset (found_set p i k e)

-- where each item that lies somewhere is small, so is one that is set
pub set_small : (p : Placement) (i : ℕ) → ((k j : ℕ) → item_at p k ≡ Some j → j < 256) → is_set p i ≡ true → i < 256
unfolding is_set
set_small [] i small e = absurd (false≢true e)
set_small (None ∷ p) i small e = set_small p i (λ k. small (suc k)) e
set_small (Some j ∷ p) i small e =
    elim (or_cases (eqb i j) (is_set p i) e) [
      | inl same ↦ rw (eqb-true i j same) (small 0 j refl)
      | inr later ↦ set_small p i (λ k. small (suc k)) later
    ]

-- what lies somewhere after a change is the new record, or lay there before
pub lay_before : (p : Placement) (n : ℕ) (o : Option ℕ) (j i : ℕ) → item_at (set p n o) j ≡ Some i → ((j ≡ n) × (o ≡ Some i)) ⊎ (item_at p j ≡ Some i)
lay_before p n o j i e =
    elim (cases_lt n (length p)) [
      | inl h ↦ elim (cases_eq j n) [
        | inl same ↦ inl (same, sym (get_or-set_same p n o None h) ∙ ap (item_at (set p n o)) (sym same) ∙ e)
        | inr apart ↦ inr (sym (get_or-set_other p n j o None apart) ∙ e)
      ]
      | inr h ↦ inr (ap (λ q. item_at q j) (sym (set_past p n o h)) ∙ e)
    ]

-- a record that may be laid down names a small item that lies nowhere
pub may_lie_facts : (p : Placement) (o : Option ℕ) (i : ℕ) → may_lie p o ≡ true → o ≡ Some i → (i < 256) × (is_set p i ≡ false)
may_lie_facts p None i m e = absurd (none-some i e)
may_lie_facts p (Some j) i m e =
    let q = and_parts (ltb j 256) (not (is_set p j)) m in
    let same : j ≡ i = cc in
    (rw (sym same) (ltb-true j 256 q.0), rw (sym same) (not-true (is_set p j) q.1))

module _ (p : Placement) (n : ℕ) (o : Option ℕ) where
  pub still_once : Once p → ((i k : ℕ) → o ≡ Some i → item_at p k ≡ Some i → ⊥) → Once (set p n o)
  still_once once fresh j k i a b =
      elim (lay_before p n o j i a) [
        | inl x ↦ elim (lay_before p n o k i b) [ inl y ↦ x.0 ∙ sym y.0 | inr y ↦ absurd (fresh i k x.1 y) ]
        | inr x ↦ elim (lay_before p n o k i b) [ inl y ↦ absurd (fresh i j y.1 x) | inr y ↦ once j k i x y ]
      ]

  pub still_small : ((k i : ℕ) → item_at p k ≡ Some i → i < 256) → ((i : ℕ) → o ≡ Some i → i < 256) → (k i : ℕ) → item_at (set p n o) k ≡ Some i → i < 256
  still_small small new k i e = elim (lay_before p n o k i e) [ inl x ↦ new i x.1 | inr x ↦ small k i x ]

  pub still_none : (m m' : ℕ) → m ≤ m' → n < m' → ((k : ℕ) → m ≤ k → item_at p k ≡ None) → (k : ℕ) → m' ≤ k → item_at (set p n o) k ≡ None
  still_none m m' a b none k h = get_or-set_other p n k o None (λ e. omega arith) ∙ none k (omega arith)
