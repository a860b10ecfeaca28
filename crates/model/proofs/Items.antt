-- Lists of items: which are in one, that none is in twice, what lies where, and that a list that has more is worth more.
use Rattle.std.proofs.Common.{◌≡◌, ℕ, zero, suc, ◌+◌, ◌<◌, ◌≤◌, Bool, true, false, T, eqb, ◌⊎◌, List, [], ◌∷◌, get_or, Some, None, Option, sym, refl, ap, ◌∙◌, subst, inl, inr, arith, eqb→eq}
use lib.Dec.{eqb_refl}
use Rattle.std.specs.List.{range_with_len}
use Rattle.std.proofs.lemmas.Bool.{cases_eq}
use Rattle.inventory.specs.Meaning.{Meaning, Lawful}
use Rattle.model.specs.Marks.{In, any, every}
use Rattle.model.specs.Worlds.{World}
use Rattle.model.specs.Placements.{Placement, item_at, lying, Once}
use Rattle.model.proofs.Sets.{and_both, and_from, or_left, or_right, or_cases, none_some}
use Rattle.model.proofs.Grows.{worth, join_right, below_any}

abbrev pub Mem : ℕ → List ℕ → Type 0
Mem x [] = ⊥
Mem x (y ∷ ys) = (x ≡ y) ⊎ Mem x ys

abbrev pub Distinct : List ℕ → Type 0
Distinct [] = Unit {0}
Distinct (x ∷ xs) = (Mem x xs → ⊥) × Distinct xs

-- tests on lists of numbers

pub mem_test : (x : ℕ) (xs : List ℕ) → Mem x xs → T (any (eqb x) xs)
mem_test x [] h = h
mem_test x (y ∷ ys) h = elim h [
  | inl e ↦ or_left (eqb x y) _ (subst (λ z. T (eqb x z)) e (eqb_refl x))
  | inr t ↦ or_right (eqb x y) _ (mem_test x ys t)
]

pub test_mem : (x : ℕ) (xs : List ℕ) → T (any (eqb x) xs) → Mem x xs
test_mem x [] t = t
test_mem x (y ∷ ys) t = elim (or_cases (eqb x y) _ t) [ inl u ↦ inl (eqb→eq x y u) | inr u ↦ inr (test_mem x ys u) ]

pub every_of : (f : ℕ → Bool) (xs : List ℕ) → T (every f xs) → (x : ℕ) → Mem x xs → T (f x)
every_of f [] t x h = absurd h
every_of f (y ∷ ys) t x h =
    let b = and_both (f y) (every f ys) t in
    elim h [ inl e ↦ subst (λ z. T (f z)) (sym e) b.0 | inr u ↦ every_of f ys b.1 x u ]

pub of_every : (f : ℕ → Bool) (xs : List ℕ) → ((x : ℕ) → Mem x xs → T (f x)) → T (every f xs)
of_every f [] h = tt
of_every f (y ∷ ys) h = and_from (f y) (every f ys) (h y (inl refl)) (of_every f ys (λ x u. h x (inr u)))

-- the numbers of the pool's items

pub mem_counting : (a n x : ℕ) → a ≤ x → x < a + n → Mem x (range_with_len a n)
mem_counting a zero x l h = let z : ⊥ = omega arith in absurd z
mem_counting a (suc n) x l h = elim (cases_eq x a) [ inl e ↦ inl e | inr e ↦ inr (mem_counting (a + 1) n x (omega arith) (omega arith)) ]

pub counting_mem : (a n x : ℕ) → Mem x (range_with_len a n) → (a ≤ x) × (x < a + n)
counting_mem a zero x t = absurd t
counting_mem a (suc n) x t =
    elim t [ inl e ↦ (omega arith, omega arith) | inr u ↦ (let r = counting_mem (a + 1) n x u in (omega arith, omega arith)) ]

pub distinct_counting : (a n : ℕ) → Distinct (range_with_len a n)
distinct_counting a zero = tt
distinct_counting a (suc n) = (λ t. let r = counting_mem (a + 1) n a t in omega arith, distinct_counting (a + 1) n)

-- the items that lie in a set of places

pub mem_lying : (p : Placement) (s : List Bool) (x : ℕ) → Mem x (lying p s) → (k : ℕ) × (item_at p k ≡ Some x) × In s k
mem_lying [] s x h = absurd h
mem_lying (o ∷ p) [] x h = absurd h
mem_lying (None ∷ p) (b ∷ s) x h = let r = mem_lying p s x h in (suc r.0, r.1, r.2)
mem_lying (Some i ∷ p) (true ∷ s) x h =
    elim h [ inl e ↦ (0, ap Some (sym e), tt) | inr t ↦ (let r = mem_lying p s x t in (suc r.0, r.1, r.2)) ]
mem_lying (Some i ∷ p) (false ∷ s) x h = let r = mem_lying p s x h in (suc r.0, r.1, r.2)

pub lying_mem : (p : Placement) (s : List Bool) (k x : ℕ) → item_at p k ≡ Some x → In s k → Mem x (lying p s)
lying_mem [] s k x e t = none_some x e
lying_mem (o ∷ p) [] k x e t = absurd t
lying_mem (None ∷ p) (b ∷ s) zero x e t = none_some x e
lying_mem (None ∷ p) (b ∷ s) (suc k) x e t = lying_mem p s k x e t
lying_mem (Some i ∷ p) (true ∷ s) zero x e t = inl (cc)
lying_mem (Some i ∷ p) (true ∷ s) (suc k) x e t = inr (lying_mem p s k x e t)
lying_mem (Some i ∷ p) (false ∷ s) zero x e t = absurd t
lying_mem (Some i ∷ p) (false ∷ s) (suc k) x e t = lying_mem p s k x e t

once_later : (o : Option ℕ) (p : Placement) → Once (o ∷ p) → Once p
once_later o p h j k i e f = let q = h (suc j) (suc k) i e f in omega arith

pub distinct_lying : (p : Placement) (s : List Bool) → Once p → Distinct (lying p s)
distinct_lying [] s h = tt
distinct_lying (o ∷ p) [] h = tt
distinct_lying (None ∷ p) (b ∷ s) h = distinct_lying p s (once_later None p h)
distinct_lying (Some i ∷ p) (true ∷ s) h = (
  λ t. let r = mem_lying p s i t in let q = h 0 (suc r.0) i refl r.1 in omega arith,
  distinct_lying p s (once_later (Some i) p h),
)
distinct_lying (Some i ∷ p) (false ∷ s) h = distinct_lying p s (once_later (Some i) p h)

-- worth

module _ (m : Meaning) (l : Lawful m) (w : World) where
  abbrev grain_of : ℕ → m.Value
  grain_of i = m.grain (get_or w.pool i 0)

  -- a list without one of its items
  Without : ℕ → List ℕ → Type 0
  Without x ys = (zs : List ℕ) × (worth m w ys ≡ m.join (grain_of x) (worth m w zs)) × ((z : ℕ) → Mem z ys → (z ≡ x) ⊎ Mem z zs)

  without : (x : ℕ) (ys : List ℕ) → Mem x ys → Without x ys
  unfolding Without
  without x [] h = absurd h
  without x (y ∷ ys) h =
      elim h [
        | inl e ↦ (ys, ap (λ i. m.join (grain_of i) (worth m w ys)) (sym e), λ z t. elim t [ inl f ↦ inl (f ∙ sym e) | inr u ↦ inr u ])
        | inr t ↦ (let r = without x ys t in (
          y ∷ r.0,
          ap (m.join (grain_of y)) r.1 ∙ swap (grain_of y) (grain_of x) (worth m w r.0),
          λ z t. elim t [ inl f ↦ inr (inl f) | inr u ↦ elim (r.2 z u) [ inl f ↦ inl f | inr v ↦ inr (inr v) ] ],
        ))
      ]
    where
      swap : (a b c : m.Value) → m.join a (m.join b c) ≡ m.join b (m.join a c)
      swap a b c = sym (l.assoc a b c) ∙ ap (λ v. m.join v c) (l.comm a b) ∙ l.assoc b a c

  -- a list in which no item is twice, and that has nothing that the other has not, is worth no more
  pub worth_below : (xs ys : List ℕ) → Distinct xs → ((x : ℕ) → Mem x xs → Mem x ys) → m.Below (worth m w xs) (worth m w ys)
  unfolding Without
  worth_below [] ys d h = below_any m l (worth m w ys)
  worth_below (x ∷ xs) ys d h =
      let r = without x ys (h x (inl refl)) in
      let k : (z : ℕ) → Mem z xs → Mem z r.0 = λ z t. elim (r.2 z (h z (inr t))) [ inl e ↦ absurd (d.0 (subst (λ y. Mem y xs) e t)) | inr u ↦ u ] in
      rw r.1 (join_right m l (worth m w xs) (worth m w r.0) (grain_of x) (worth_below xs r.0 d.1 k))
