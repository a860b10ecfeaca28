-- The items that are left lie nowhere, at the start of an attempt and after each item that is set.
use Rattle.std.proofs.Common.{◌≡◌, ℕ, zero, suc, ◌+◌, ◌<◌, ◌≤◌, true, false, not, eqb, ltb, List, [], ◌∷◌, length, get_or, set, Some, None, filter, Option, sym, ap, ◌∙◌, inl, inr, le_of_suc-le-suc, not-suc-le-zero, arith}
use Rattle.std.specs.List.{insert, remove, range_with_len, AllByRecursion}
use Rattle.std.proofs.lemmas.List.{set_past}
use Rattle.std.proofs.ByRecursion.{All-get_or, all_kept_by}
use Rattle.std.proofs.lemmas.Bool.{cases_lt, not-true, ne_eqb, lt-ltb, le-ltb, or_parts, or_from, cond-true, cond-false, cond_both}
use Rattle.model.specs.Worlds.{World as Atlas}
use Rattle.model.specs.Placements.{Placement, item_at}
use Rattle.model.specs.Boards.{no_item, is_item, is_set, unset}
use Rattle.sheet.specs.declared.refusal.PlaceRefusal.{PlaceRefusal}
use Rattle.sheet.specs.declared.refusal.PlaceRefusal.TheVariants.{NoPlace}
use Rattle.sheet.specs.Changes.{unless, laid, left_by}
use Rattle.draw.specs.Source.{Source, Fair}
use Rattle.filling.specs.Steps.{Fresh, picked, others}

pub fresh_item : (p : Placement) (left : List ℕ) (j : ℕ) → j < length left → Fresh p left → (get_or left j 0 < 256) × (is_set p (get_or left j 0) ≡ false)
unfolding Fresh
fresh_item p [] j h fresh = absurd (not-suc-le-zero h)
fresh_item p (i ∷ left) zero h fresh = (fresh.0, fresh.1)
fresh_item p (i ∷ left) (suc j) h fresh = fresh_item p left j (le_of_suc-le-suc h) fresh.3

all_removed : (P : ℕ → Type 0) (xs : List ℕ) (j : ℕ) → AllByRecursion P xs → AllByRecursion P (remove xs j)
all_removed P [] zero all = all
all_removed P [] (suc j) all = all
all_removed P (x ∷ xs) zero all = all.1
all_removed P (x ∷ xs) (suc j) all = (all.0, all_removed P xs j all.1)

-- an item that is set nowhere is not set by setting another
unset_kept : (p : Placement) (k i item : ℕ) → (item ≡ i → ⊥) → is_set p i ≡ false → is_set (set p k (Some item)) i ≡ false
unfolding is_set
unset_kept [] k i item apart none = none
unset_kept (o ∷ p) zero i item apart none =
    or_from (eqb i item) (is_set p i) (ne_eqb i item (λ e. apart (sym e))) (or_parts (is_item i o) (is_set p i) none).1
unset_kept (o ∷ p) (suc k) i item apart none =
    let parts = or_parts (is_item i o) (is_set p i) none in
    or_from (is_item i o) (is_set (set p k (Some item)) i) parts.0 (unset_kept p k i item apart parts.1)

fresh_kept : (p : Placement) (k item : ℕ) (left : List ℕ) → AllByRecursion (λ i. item ≡ i → ⊥) left → Fresh p left → Fresh (set p k (Some item)) left
unfolding Fresh
fresh_kept p k item [] apart fresh = tt
fresh_kept p k item (i ∷ left) apart fresh = (fresh.0, unset_kept p k i item apart.0 fresh.1, fresh.2, fresh_kept p k item left apart.1 fresh.3)

fresh_removed : (p : Placement) (left : List ℕ) (j : ℕ) → j < length left → Fresh p left → Fresh p (remove left j) × AllByRecursion (λ i. get_or left j 0 ≡ i → ⊥) (remove left j)
unfolding Fresh
fresh_removed p [] j h fresh = absurd (not-suc-le-zero h)
fresh_removed p (i ∷ left) zero h fresh = (fresh.3, fresh.2)
fresh_removed p (i ∷ left) (suc j) h fresh =
    let below = le_of_suc-le-suc h in
    let rest = fresh_removed p left j below fresh.3 in
    let other = All-get_or (λ k. i ≡ k → ⊥) left j 0 below fresh.2 in
    ((fresh.0, fresh.1, all_removed (λ k. i ≡ k → ⊥) left j fresh.2, rest.0), (λ e. other (sym e), rest.1))

-- an item that is put back where it was taken out leaves the list as it was
pub put_back : (xs : List ℕ) (j item : ℕ) → j < length xs → item ≡ get_or xs j item → insert (remove xs j) j item ≡ xs
put_back [] j item h is = absurd (not-suc-le-zero h)
put_back (x ∷ xs) zero item h is = ap (λ y. y ∷ xs) is
put_back (x ∷ xs) (suc j) item h is = ap (λ l. x ∷ l) (put_back xs j item (le_of_suc-le-suc h) is)

-- the same of a list that is known to be what was left
pub put_back_as : (xs rest : List ℕ) (j item : ℕ) → j < length xs → item ≡ get_or xs j item → rest ≡ remove xs j → insert rest j item ≡ xs
put_back_as xs rest j item h is e = ap (λ l. insert l j item) e ∙ put_back xs j item h is

-- one of the items is set, and the others stay fresh
pub fresh_set : (p : Placement) (left : List ℕ) (j k : ℕ) → j < length left → Fresh p left → Fresh (set p k (Some (get_or left j 0))) (remove left j)
fresh_set p left j k h fresh =
    let rest = fresh_removed p left j h fresh in fresh_kept p k (get_or left j 0) (remove left j) rest.1 rest.0

-- an item is drawn, and what is known of it and of the others
module _ (s : Source) (fair : Fair s) (x : s.State) (p : Placement) (left : List ℕ) (some : 0 < length left) (fresh : Fresh p left) where
  pub picked_fresh : (picked s x left < 256) × (is_set p (picked s x left) ≡ false)
  unfolding picked
  picked_fresh = fresh_item p left _ (fair.below x (length left) some) fresh

  pub others_fresh : Fresh p (others s x left)
  unfolding others
  others_fresh = (fresh_removed p left _ (fair.below x (length left) some) fresh).0

  pub set_fresh : (k : ℕ) → Fresh (set p k (Some (picked s x left))) (others s x left)
  unfolding picked others
  set_fresh k = fresh_set p left _ k (fair.below x (length left) some) fresh

later : (a b n : ℕ) → a < b → AllByRecursion (λ k. a ≡ k → ⊥) (range_with_len b n)
later a b zero h = tt
later a b (suc n) h = (λ e. omega arith, later a (b + 1) n (omega arith))

fresh_from : (p : Placement) (a n : ℕ) → a + n ≤ 256 → Fresh p (filter (λ i. not (is_set p i)) (range_with_len a n))
unfolding Fresh
fresh_from p a zero h = tt
fresh_from p a (suc n) h =
    let rest = filter (λ i. not (is_set p i)) (range_with_len (a + 1) n) in
    let fresh = fresh_from p (a + 1) n (omega arith) in
    cond_both (not (is_set p a)) (a ∷ rest) rest (Fresh p)
    (λ none. (omega arith, not-true (is_set p a) none, all_kept_by (λ i. not (is_set p i)) (λ k. a ≡ k → ⊥) (range_with_len (a + 1) n) (later a (a + 1) n (omega arith)), fresh))
    (λ there. fresh)

pub fresh_unset : (w : Atlas) (p : Placement) → length w.pool ≤ 256 → Fresh p (unset w p)
unfolding unset
fresh_unset w p few = fresh_from p 0 (length w.pool) (omega arith)

-- what a table holds once an item that lies nowhere is laid down at an empty place, or at none that it has
pub laid_down : (p : Placement) (k i : ℕ) → no_item (item_at p k) ≡ true → i < 256 → is_set p i ≡ false → left_by (laid p k i) p ≡ set p k (Some i)
laid_down p k i empty small none =
    let after : Option PlaceRefusal → Placement = λ why. left_by (unless why (set p k (Some i))) p in
    elim (cases_lt k (length p)) [
      | inl there ↦ ap after
          (cond-true (ltb k (length p)) _ _ (lt-ltb k (length p) there)
          ∙ cond-true (no_item (item_at p k)) _ _ empty
          ∙ cond-true (ltb i 256) _ _ (lt-ltb i 256 small)
          ∙ cond-false (is_set p i) _ None none)
      | inr past ↦ ap after (cond-false (ltb k (length p)) _ (Some NoPlace) (le-ltb k (length p) past)) ∙ sym (set_past p k (Some i) past)
    ]
