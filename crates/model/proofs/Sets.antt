-- Sets as marks: tests, subsets, and a chain of sets that settles.
use Rattle.std.proofs.Common.{◌≡◌, ℕ, zero, suc, ◌+◌, ◌<◌, ◌≤◌, Bool, true, false, cond, ◌&&◌, ◌||◌, T, ◌⊎◌, List, [], ◌∷◌, map, length, Some, None, Option, sym, refl, ap, ◌∙◌, subst, inl, inr, suc-le-suc, zero-le, le_of_suc-le-suc, not-suc-le-zero, arith}
use Rattle.model.specs.Marks.{In, Sub, tabulate, count, any, iterate, first}

-- tests

pub and_both : (a b : Bool) → T (a && b) → T a × T b
and_both true b t = (tt, t)
and_both false b t = absurd t

pub and_from : (a b : Bool) → T a → T b → T (a && b)
and_from true b s t = t
and_from false b s t = absurd s

pub or_left : (a b : Bool) → T a → T (a || b)
or_left true b t = tt
or_left false b t = absurd t

pub or_right : (a b : Bool) → T b → T (a || b)
or_right true b t = tt
or_right false b t = t

pub or_cases : (a b : Bool) → T (a || b) → T a ⊎ T b
or_cases true b t = inl tt
or_cases false b t = inr t

pub and_map : (a b c d : Bool) → (T a → T c) → (T b → T d) → T (a && b) → T (c && d)
and_map a b c d f g t = and_from c d (f (and_both a b t).0) (g (and_both a b t).1)

pub or_map : (a b c d : Bool) → (T a → T c) → (T b → T d) → T (a || b) → T (c || d)
or_map true b c d f g t = or_left c d (f tt)
or_map false b c d f g t = or_right c d (g t)

pub yes_or_no : (b : Bool) → T b ⊎ (T b → ⊥)
yes_or_no true = inl tt
yes_or_no false = inr (λ t. t)

pub true_if : (b : Bool) → T b → b ≡ true
true_if true t = refl
true_if false t = absurd t

pub false_if : (b : Bool) → (T b → ⊥) → b ≡ false
false_if true f = absurd (f tt)
false_if false f = refl

-- what holds of both ways of a choice holds of the choice
pub cond_ways : {A : Type 0} (P : A → Type 0) (b : Bool) (x y : A) → (T b → P x) → ((T b → ⊥) → P y) → P (cond b x y)
cond_ways P true x y f g = f tt
cond_ways P false x y f g = g (λ t. t)

pub any_map : {A : Type 0} (f g : A → Bool) → ((x : A) → T (f x) → T (g x)) → (xs : List A) → T (any f xs) → T (any g xs)
any_map f g h [] t = t
any_map f g h (x ∷ xs) t = or_map (f x) (any f xs) (g x) (any g xs) (h x) (any_map f g h xs) t

pub none_some : {A : Type 0} (i : ℕ) → ◌≡◌ {A = Option ℕ} None (Some i) → A
none_some i e = let z : ◌≡◌ {A = ℕ} 0 1 = cc in let y : ⊥ = omega arith in absurd y

-- subsets

pub sub_trans : (s t u : List Bool) → Sub s t → Sub t u → Sub s u
sub_trans s t u f g k h = g k (f k h)

pub in_tabulate : (n : ℕ) (f : ℕ → Bool) (k : ℕ) → k < n → T (f k) → In (tabulate n f) k
in_tabulate zero f k h t = absurd (not-suc-le-zero h)
in_tabulate (suc n) f zero h t = t
in_tabulate (suc n) f (suc k) h t = in_tabulate n (λ i. f (suc i)) k (le_of_suc-le-suc h) t

pub tabulate_in : (n : ℕ) (f : ℕ → Bool) (k : ℕ) → In (tabulate n f) k → (k < n) × T (f k)
tabulate_in zero f k t = absurd t
tabulate_in (suc n) f zero t = (suc-le-suc zero-le, t)
tabulate_in (suc n) f (suc k) t =
    let h = tabulate_in n (λ i. f (suc i)) k t in
    (suc-le-suc h.0, h.1)

pub tabulate_sub : (n : ℕ) (f g : ℕ → Bool) → ((k : ℕ) → T (f k) → T (g k)) → Sub (tabulate n f) (tabulate n g)
tabulate_sub n f g h k t = let p = tabulate_in n f k t in in_tabulate n g k p.0 (h k p.1)

pub length_tabulate : (n : ℕ) (f : ℕ → Bool) → length (tabulate n f) ≡ n
length_tabulate zero f = refl
length_tabulate (suc n) f = ap suc (length_tabulate n (λ i. f (suc i)))

pub map_sub : {A : Type 0} (f g : A → Bool) → ((x : A) → T (f x) → T (g x)) → (xs : List A) → Sub (map f xs) (map g xs)
map_sub f g h [] k t = t
map_sub f g h (x ∷ xs) zero t = h x t
map_sub f g h (x ∷ xs) (suc k) t = map_sub f g h xs k t

pub none_sub : {A : Type 0} (xs : List A) (s : List Bool) → Sub (map (λ x. false) xs) s
none_sub [] s k t = absurd t
none_sub (x ∷ xs) s zero t = absurd t
none_sub (x ∷ xs) [] (suc k) t = none_sub xs [] k t
none_sub (x ∷ xs) (b ∷ s) (suc k) t = none_sub xs s k t

pub in_length : (s : List Bool) (k : ℕ) → In s k → k < length s
in_length [] k t = absurd t
in_length (b ∷ s) zero t = suc-le-suc zero-le
in_length (b ∷ s) (suc k) t = suc-le-suc (in_length s k t)

pub count_le : (s : List Bool) → count s ≤ length s
count_le [] = zero-le
count_le (true ∷ s) = suc-le-suc (count_le s)
count_le (false ∷ s) = let h = count_le s in omega arith

-- a set inside another of its length is that one, or has fewer
pub grown : (s t : List Bool) → length s ≡ length t → Sub s t → (s ≡ t) ⊎ (count s < count t)
grown [] [] e h = inl refl
grown [] (b ∷ t) e h = let z : ⊥ = omega arith in absurd z
grown (a ∷ s) [] e h = let z : ⊥ = omega arith in absurd z
grown (true ∷ s) (true ∷ t) e h =
    let e' : length s ≡ length t = omega arith in
    elim (grown s t e' (λ k. h (suc k))) [ inl p ↦ inl (ap (λ l. true ∷ l) p) | inr q ↦ inr (suc-le-suc q) ]
grown (true ∷ s) (false ∷ t) e h = absurd (h 0 tt)
grown (false ∷ s) (true ∷ t) e h =
    let e' : length s ≡ length t = omega arith in
    elim (grown s t e' (λ k. h (suc k))) [ inl p ↦ inr (let c = ap count p in omega arith) | inr q ↦ inr (omega arith) ]
grown (false ∷ s) (false ∷ t) e h =
    let e' : length s ≡ length t = omega arith in
    elim (grown s t e' (λ k. h (suc k))) [ inl p ↦ inl (ap (λ l. false ∷ l) p) | inr q ↦ inr q ]

pub same_set : (s t : List Bool) → length s ≡ length t → Sub s t → Sub t s → s ≡ t
same_set [] [] e f g = refl
same_set [] (b ∷ t) e f g = let z : ⊥ = omega arith in absurd z
same_set (a ∷ s) [] e f g = let z : ⊥ = omega arith in absurd z
same_set (true ∷ s) (true ∷ t) e f g = ap (λ l. true ∷ l) (same_set s t (omega arith) (λ k. f (suc k)) (λ k. g (suc k)))
same_set (true ∷ s) (false ∷ t) e f g = absurd (f 0 tt)
same_set (false ∷ s) (true ∷ t) e f g = absurd (g 0 tt)
same_set (false ∷ s) (false ∷ t) e f g = ap (λ l. false ∷ l) (same_set s t (omega arith) (λ k. f (suc k)) (λ k. g (suc k)))

-- steps from smaller to smaller sets
pub iterate_sub : (f g : List Bool → List Bool) → ((s t : List Bool) → Sub s t → Sub (f s) (g t)) → (a b : List Bool) → Sub a b → (n : ℕ) → Sub (iterate n f a) (iterate n g b)
iterate_sub f g h a b i zero = i
iterate_sub f g h a b i (suc n) = h (iterate n f a) (iterate n g b) (iterate_sub f g h a b i n)

module _ (f : List Bool → List Bool) (mono : (s t : List Bool) → Sub s t → Sub (f s) (f t)) (a : List Bool) where
  -- a set that has the start, and with which the step adds nothing, has all
  pub iterate_least : (t : List Bool) → Sub a t → Sub (f t) t → (n : ℕ) → Sub (iterate n f a) t
  iterate_least t i h zero = i
  iterate_least t i h (suc n) = sub_trans (f (iterate n f a)) (f t) t (mono (iterate n f a) t (iterate_least t i h n)) h

  pub iterate_rises : Sub a (f a) → (n : ℕ) → Sub (iterate n f a) (iterate (suc n) f a)
  iterate_rises up zero = up
  iterate_rises up (suc n) = mono (iterate n f a) (f (iterate n f a)) (iterate_rises up n)

  pub iterate_start : Sub a (f a) → (n : ℕ) → Sub a (iterate n f a)
  iterate_start up zero k t = t
  iterate_start up (suc n) k t = iterate_rises up n k (iterate_start up n k t)

  module _ (size : ℕ) (start : length a ≡ size) (keeps : (s : List Bool) → length (f s) ≡ size) (up : Sub a (f a)) where
    length_iterate : (n : ℕ) → length (iterate n f a) ≡ size
    length_iterate zero = start
    length_iterate (suc n) = keeps (iterate n f a)

    -- after n steps there are n, or it has settled
    many_or_settled : (n : ℕ) → (n ≤ count (iterate n f a)) ⊎ (f (iterate n f a) ≡ iterate n f a)
    many_or_settled zero = inl zero-le
    many_or_settled (suc n) =
        elim (many_or_settled n) [
          | inr e ↦ inr (ap f e)
          | inl h ↦ elim (grown (iterate n f a) (f (iterate n f a)) (length_iterate n ∙ sym (keeps (iterate n f a))) (iterate_rises up n)) [
            | inl e ↦ inr (ap f (sym e))
            | inr q ↦ inl (omega arith)
          ]
        ]

    pub iterate_settles : f (iterate size f a) ≡ iterate size f a
    iterate_settles =
        elim (many_or_settled size) [
          | inr e ↦ e
          | inl h ↦ elim (grown (iterate size f a) (f (iterate size f a)) (length_iterate size ∙ sym (keeps (iterate size f a))) (iterate_rises up size)) [
            | inl e ↦ sym e
            | inr q ↦ (let z : ⊥ = omega (arith, count_le (f (iterate size f a)), keeps (iterate size f a)) in absurd z)
          ]
        ]

-- the first number that passes

pub eq_or_above : (k j : ℕ) → k ≤ j → (k ≡ j) ⊎ (suc k ≤ j)
eq_or_above zero zero h = inl refl
eq_or_above zero (suc j) h = inr (suc-le-suc zero-le)
eq_or_above (suc k) zero h = absurd (not-suc-le-zero h)
eq_or_above (suc k) (suc j) h = elim (eq_or_above k j (le_of_suc-le-suc h)) [ inl e ↦ inl (ap suc e) | inr q ↦ inr (suc-le-suc q) ]

pub record First (n k : ℕ) (f : ℕ → Bool) (r : ℕ) : Type 0 where
  pub passes : T (f r)
  pub from : k ≤ r
  pub before : r < k + n
  pub lowest : (j : ℕ) → k ≤ j → T (f j) → r ≤ j

pub first_some : (n k : ℕ) (f : ℕ → Bool) (r : ℕ) → first n k f ≡ Some r → First n k f r
first_some zero k f r e = let z : ◌≡◌ {A = ℕ} 0 1 = cc in let y : ⊥ = omega arith in absurd y
first_some (suc n) k f r e₀ =
    cond_ways (λ o. o ≡ Some r → First (suc n) k f r) (f k) (Some k) (first n (suc k) f)
    (λ t e.
    let here : k ≡ r = cc in
    record { passes = subst (λ x. T (f x)) here t; from = omega arith; before = omega arith; lowest = λ j l u. omega arith })
    (λ g e.
    let h = first_some n (suc k) f r e in
    record {
      passes = h.passes;
      from = (let q = h.from in omega arith);
      before = (let q = h.before in omega arith);
      lowest = λ j l u. elim (eq_or_above k j l) [ inl q ↦ absurd (g (subst (λ x. T (f x)) (sym q) u)) | inr q ↦ h.lowest j q u ];
    })
    e₀

pub first_finds : (n k : ℕ) (f : ℕ → Bool) (j : ℕ) → k ≤ j → j < k + n → T (f j) → (r : ℕ) × (first n k f ≡ Some r)
first_finds zero k f j l h u = let z : ⊥ = omega arith in absurd z
first_finds (suc n) k f j l h u =
    cond_ways (λ o. (r : ℕ) × (o ≡ Some r)) (f k) (Some k) (first n (suc k) f)
    (λ t. (k, refl))
    (λ g. elim (eq_or_above k j l) [
      | inl q ↦ absurd (g (subst (λ x. T (f x)) (sym q) u))
      | inr q ↦ first_finds n (suc k) f j q (omega arith) u
    ])
