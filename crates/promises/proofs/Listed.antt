-- Lists of items that are not set: what is in one, what is left without one of them, and what they gather.
use Rattle.std.proofs.Common.{◌≡◌, ℕ, zero, suc, ◌+◌, ◌<◌, ◌≤◌, Bool, T, eqb, ◌⊎◌, List, [], ◌∷◌, ◌++◌, length, get_or, Some, None, filter, sym, refl, ap, subst, inl, inr, suc-le-suc, zero-le, le_of_suc-le-suc, not-suc-le-zero, arith, eqb→eq, T_not}
use lib.Dec.{eqb_refl, not_T}
use Rattle.std.specs.List.{remove, range_with_len}
use Rattle.std.proofs.lemmas.Bool.{cases_eq}
use Rattle.inventory.specs.Meaning.{Meaning, Lawful}
use Rattle.model.specs.Marks.{Sub}
use Rattle.model.specs.Worlds.{World, with_items}
use Rattle.model.specs.Placements.{Placement, item_at, lying, gathered}
use Rattle.model.specs.Boards.{is_set, unset}
use Rattle.model.proofs.Sets.{cond_ways, or_left, or_right, or_cases, none_some}
use Rattle.model.proofs.Grows.{items_below, gathered_below}
use Rattle.model.proofs.Items.{Mem, Distinct, worth_below}

-- appended lists

pub mem_left : (x : ℕ) (xs ys : List ℕ) → Mem x xs → Mem x (xs ++ ys)
mem_left x [] ys h = absurd h
mem_left x (a ∷ xs) ys h = elim h [ inl e ↦ inl e | inr t ↦ inr (mem_left x xs ys t) ]

pub mem_right : (x : ℕ) (xs ys : List ℕ) → Mem x ys → Mem x (xs ++ ys)
mem_right x [] ys h = h
mem_right x (a ∷ xs) ys h = inr (mem_right x xs ys h)

pub mem_cases : (x : ℕ) (xs ys : List ℕ) → Mem x (xs ++ ys) → Mem x xs ⊎ Mem x ys
mem_cases x [] ys h = inr h
mem_cases x (a ∷ xs) ys h =
    elim h [ inl e ↦ inl (inl e) | inr t ↦ elim (mem_cases x xs ys t) [ inl u ↦ inl (inr u) | inr u ↦ inr u ] ]

pub distinct_append : (xs ys : List ℕ) → Distinct xs → Distinct ys → ((x : ℕ) → Mem x xs → Mem x ys → ⊥) → Distinct (xs ++ ys)
distinct_append [] ys d e h = e
distinct_append (x ∷ xs) ys d e h = (
  λ t. elim (mem_cases x xs ys t) [ inl u ↦ d.0 u | inr u ↦ h x (inl refl) u ],
  distinct_append xs ys d.1 e (λ y u v. h y (inr u) v),
)

-- the places of a list's elements

pub mem_at : (x : ℕ) (xs : List ℕ) → Mem x xs → (j : ℕ) × (j < length xs) × (get_or xs j 0 ≡ x)
mem_at x [] h = absurd h
mem_at x (y ∷ ys) h =
    elim h [
      | inl e ↦ (0, suc-le-suc zero-le, sym e)
      | inr t ↦ (let r = mem_at x ys t in (suc r.0, suc-le-suc r.1, r.2))
    ]

pub at_mem : (xs : List ℕ) (j : ℕ) → j < length xs → Mem (get_or xs j 0) xs
at_mem [] j h = absurd (not-suc-le-zero h)
at_mem (x ∷ xs) zero h = inl refl
at_mem (x ∷ xs) (suc j) h = inr (at_mem xs j (le_of_suc-le-suc h))

-- the j-th taken out

pub removed_mem : (xs : List ℕ) (j x : ℕ) → Mem x (remove xs j) → Mem x xs
removed_mem [] zero x h = h
removed_mem [] (suc j) x h = h
removed_mem (y ∷ xs) zero x h = inr h
removed_mem (y ∷ xs) (suc j) x h = elim h [ inl e ↦ inl e | inr t ↦ inr (removed_mem xs j x t) ]

pub removed_distinct : (xs : List ℕ) (j : ℕ) → Distinct xs → Distinct (remove xs j)
removed_distinct [] zero d = d
removed_distinct [] (suc j) d = d
removed_distinct (y ∷ xs) zero d = d.1
removed_distinct (y ∷ xs) (suc j) d = (λ t. d.0 (removed_mem xs j y t), removed_distinct xs j d.1)

pub removed_apart : (xs : List ℕ) (j : ℕ) → j < length xs → Distinct xs → Mem (get_or xs j 0) (remove xs j) → ⊥
removed_apart [] j h d t = not-suc-le-zero h
removed_apart (y ∷ xs) zero h d t = d.0 t
removed_apart (y ∷ xs) (suc j) h d t =
    elim t [
      | inl e ↦ d.0 (subst (λ z. Mem z xs) e (at_mem xs j (le_of_suc-le-suc h)))
      | inr u ↦ removed_apart xs j (le_of_suc-le-suc h) d.1 u
    ]

pub removed_keeps : (xs : List ℕ) (j x : ℕ) → Mem x xs → (x ≡ get_or xs j 0 → ⊥) → Mem x (remove xs j)
removed_keeps [] j x h n = absurd h
removed_keeps (y ∷ xs) zero x h n = elim h [ inl e ↦ absurd (n e) | inr t ↦ t ]
removed_keeps (y ∷ xs) (suc j) x h n = elim h [ inl e ↦ inl e | inr t ↦ inr (removed_keeps xs j x t n) ]

-- the numbers that pass a test

pub record Passes (f : ℕ → Bool) (a n x : ℕ) : Type 0 where
  pub from : a ≤ x
  pub before : x < a + n
  pub passes : T (f x)

pub kept_mem : (f : ℕ → Bool) (a n x : ℕ) → Mem x (filter f (range_with_len a n)) → Passes f a n x
kept_mem f a zero x h = absurd h
kept_mem f a (suc n) x h₀ =
    let later : Mem x (filter f (range_with_len (a + 1) n)) → Passes f a (suc n) x =
    λ t. let r = kept_mem f (a + 1) n x t in
    record { from = (let q = r.from in omega arith); before = (let q = r.before in omega arith); passes = r.passes } in
    cond_ways (λ l. Mem x l → Passes f a (suc n) x) (f a) (a ∷ filter f (range_with_len (a + 1) n)) (filter f (range_with_len (a + 1) n))
    (λ p h. elim h [ inl e ↦ record { from = omega arith; before = omega arith; passes = subst (λ y. T (f y)) (sym e) p } | inr t ↦ later t ])
    (λ p h. later h)
    h₀

pub mem_kept : (f : ℕ → Bool) (a n x : ℕ) → a ≤ x → x < a + n → T (f x) → Mem x (filter f (range_with_len a n))
mem_kept f a zero x l h t = let z : ⊥ = omega arith in absurd z
mem_kept f a (suc n) x l h t =
    cond_ways (λ r. Mem x r) (f a) (a ∷ filter f (range_with_len (a + 1) n)) (filter f (range_with_len (a + 1) n))
    (λ p. elim (cases_eq x a) [ inl e ↦ inl e | inr e ↦ inr (mem_kept f (a + 1) n x (omega arith) (omega arith) t) ])
    (λ p. elim (cases_eq x a) [ inl e ↦ absurd (p (subst (λ y. T (f y)) e t)) | inr e ↦ mem_kept f (a + 1) n x (omega arith) (omega arith) t ])

pub distinct_kept : (f : ℕ → Bool) (a n : ℕ) → Distinct (filter f (range_with_len a n))
distinct_kept f a zero = tt
distinct_kept f a (suc n) =
    cond_ways Distinct (f a) (a ∷ filter f (range_with_len (a + 1) n)) (filter f (range_with_len (a + 1) n))
    (λ p. (λ t. let r = (kept_mem f (a + 1) n a t).from in omega arith, distinct_kept f (a + 1) n))
    (λ p. distinct_kept f (a + 1) n)

-- whether an item is set

pub set_where : (p : Placement) (x : ℕ) → T (is_set p x) → (k : ℕ) × (item_at p k ≡ Some x)
unfolding is_set
set_where [] x t = absurd t
set_where (None ∷ p) x t = let r = set_where p x t in (suc r.0, r.1)
set_where (Some i ∷ p) x t =
    elim (or_cases (eqb x i) (is_set p x) t) [ inl u ↦ (0, ap Some (sym (eqb→eq x i u))) | inr u ↦ (let r = set_where p x u in (suc r.0, r.1)) ]

pub there_set : (p : Placement) (k x : ℕ) → item_at p k ≡ Some x → T (is_set p x)
unfolding is_set
there_set [] k x e = none_some x e
there_set (None ∷ p) zero x e = none_some x e
there_set (None ∷ p) (suc k) x e = there_set p k x e
there_set (Some i ∷ p) zero x e = or_left (eqb x i) (is_set p x) (let q : x ≡ i = cc in subst (λ y. T (eqb x y)) q (eqb_refl x))
there_set (Some i ∷ p) (suc k) x e = or_right (eqb x i) (is_set p x) (there_set p k x e)

-- a list of the items that are not set, each once
pub record Unset (w : World) (p : Placement) (items : List ℕ) : Type 0 where
  pub apart : Distinct items
  pub free : (x : ℕ) → Mem x items → (x < length w.pool) × (T (is_set p x) → ⊥)
  pub all : (x : ℕ) → x < length w.pool → (T (is_set p x) → ⊥) → Mem x items

pub unset_is : (w : World) (p : Placement) → Unset w p (unset w p)
unfolding unset
unset_is w p = record {
  apart = distinct_kept _ 0 (length w.pool);
  free = λ x t. let r = kept_mem _ 0 (length w.pool) x t in ((let q = r.before in omega arith), T_not (is_set p x) r.passes);
  all = λ x h n. mem_kept _ 0 (length w.pool) x zero-le (omega arith) (not_T (is_set p x) n);
}

module _ (m : Meaning) (l : Lawful m) (w : World) where
  pub with_items_append : (v : m.Value) (xs ys : List ℕ) → with_items m w (with_items m w v xs) ys ≡ with_items m w v (xs ++ ys)
  with_items_append v [] ys = refl
  with_items_append v (x ∷ xs) ys = with_items_append (m.join v (m.grain (get_or w.pool x 0))) xs ys

  -- one placement and list gather all that another does, which has as many items in the places it gathers and in its list
  pub gathered_within : (v : m.Value) (p q : Placement) (xs ys : List ℕ)
      → (let g = gathered m w q (with_items m w v ys) in Distinct (xs ++ lying p g) × ((x : ℕ) → Mem x (xs ++ lying p g) → Mem x (ys ++ lying q g)))
      → Sub (gathered m w p (with_items m w v xs)) (gathered m w q (with_items m w v ys))
  gathered_within v p q xs ys h =
      let g : List Bool = gathered m w q (with_items m w v ys) in
      gathered_below m l w p q (with_items m w v xs) (with_items m w v ys)
      (rw (with_items_append v xs (lying p g), with_items_append v ys (lying q g))
      (items_below m l w v v (xs ++ lying p g) (ys ++ lying q g) (l.reflexive v) (worth_below m l w (xs ++ lying p g) (ys ++ lying q g) h.0 h.1)))
