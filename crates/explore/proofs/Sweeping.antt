-- Gates crossed one after the other, and the search that they make up.
use Rattle.std.proofs.Common.{◌≡◌, ℕ, zero, suc, ◌<◌, Bool, true, false, cond, not, T, eqb, List, [], ◌∷◌, ◌++◌, length, get_or, take, set, replicate, sym, refl, ◌∙◌, subst, inl, inr, arith, eqb→eq, length-set}
use lib.Dec.{eqb_refl}
use Rattle.std.specs.List.{AllByRecursion}
use Rattle.std.proofs.lemmas.Bool.{and_parts, not-true, cases_eq}
use Rattle.std.proofs.lemmas.List.{get_or-take, length-take-le}
use Rattle.std.proofs.ByRecursion.{All-get_or}
use Rattle.std.proofs.lemmas.Float.{T_from_true}
use Rattle.inventory.specs.Meaning.{Meaning, held}
use Rattle.model.specs.Marks.{at, In, Sub, any}
use Rattle.model.specs.Rules.{reads}
use Rattle.model.specs.Worlds.{World as Atlas, Gate as Gateway, reached}
use Rattle.model.specs.Proper.{Proper, ProperGate}
use Rattle.model.specs.Laws.{Closed, ReachLaw}
use Rattle.model.proofs.Sets.{or_left, or_right, or_cases, or_map, false_if, and_from, yes_or_no}
use Rattle.explore.specs.Reaching.{leads, Settled, Left, Widens, Underway, Spread}
use Rattle.explore.proofs.Counting.{count_set, in_set, in_set_same, in_set_cases, set_inside, none_in}

-- one more that waits, among others
waits_still : (others h : List ℕ) (f r : ℕ) → T (any (eqb r) (others ++ h)) → T (any (eqb r) (others ++ f ∷ h))
waits_still [] h f r t = or_right (eqb r f) _ t
waits_still (x ∷ others) h f r t = or_map (eqb r x) _ (eqb r x) _ (λ u. u) (waits_still others h f r) t

waits_now : (others h : List ℕ) (f : ℕ) → T (any (eqb f) (others ++ f ∷ h))
waits_now [] h f = or_left (eqb f f) _ (eqb_refl f)
waits_now (x ∷ others) h f = or_right (eqb f x) _ (waits_now others h f)

module _ (m : Meaning) (w : Atlas) (v : m.Value) where
  -- a mark more, with its region waiting
  settled_more : (others h : List ℕ) (s : List Bool) (f : ℕ) (g : Gateway) → Settled m v (others ++ h) s g → Settled m v (others ++ f ∷ h) (set s f true) g
  settled_more others h s f g old near met =
      elim (in_set_cases s f g.near near) [
        | inl u ↦ or_map (at s g.far) _ (at (set s f true) g.far) _ (in_set s f g.far) (waits_still others h f g.near) (old u met)
        | inr e ↦ or_right (at (set s f true) g.far) _ (subst (λ n. T (any (eqb n) (others ++ f ∷ h))) (sym e) (waits_now others h f))
      ]

  -- a gate from another region
  elsewhere : (x : ℕ) (h : List ℕ) (s : List Bool) (g : Gateway) → (g.near ≡ x → ⊥) → Settled m v (x ∷ h) s g → Settled m v h s g
  elsewhere x h s g other old near met =
      elim (or_cases (at s g.far) _ (old near met)) [
        | inl u ↦ or_left (at s g.far) _ u
        | inr u ↦ elim (or_cases (eqb g.near x) _ u) [ inl y ↦ absurd (other (eqb→eq g.near x y)) | inr z ↦ or_right (at s g.far) _ z ]
      ]

  -- a gate that leads nowhere new
  stays : (h : List ℕ) (s : List Bool) (g : Gateway) → leads (held m v) g.near g.far g.rule s ≡ false → Settled m v h s g
  stays h s g e near met = or_left (at s g.far) _
      (elim (yes_or_no (at s g.far)) [
        | inl u ↦ u
        | inr n ↦ absurd (subst T e (and_from _ _ near (and_from _ _ (subst (λ b. T (not b)) (sym (false_if _ n)) tt) met)))
      ])

  pub widens_none : (s : List Bool) (h : List ℕ) → Widens m w v s h s h
  widens_none s h = record { size = refl; keeps = λ k t. t; sound = λ t c a. a; waits = refl; more = omega arith; settled = λ others g a. a }

  pub widens_on : (s : List Bool) (h : List ℕ) (s₁ : List Bool) (h₁ : List ℕ) (s₂ : List Bool) (h₂ : List ℕ) → Widens m w v s h s₁ h₁ → Widens m w v s₁ h₁ s₂ h₂ → Widens m w v s h s₂ h₂
  widens_on s h s₁ h₁ s₂ h₂ a b =
      let first = a.waits in
      let second = b.waits in
      let low = a.more in
      let high = b.more in
      record {
        size = b.size ∙ a.size;
        keeps = λ k t. b.keeps k (a.keeps k t);
        sound = λ t c i. b.sound t c (a.sound t c i);
        waits = omega arith;
        more = omega arith;
        settled = λ others g o. b.settled others g (a.settled others g o);
      }

  -- one gate of the world
  module _ (s : List Bool) (h : List ℕ) (i : ℕ) (g : Gateway) (lt : i < length w.gates) (found : g ≡ get_or w.gates i g) (known : g.far < length s) where
    go : leads (held m v) g.near g.far g.rule s ≡ true → Widens m w v s h (set s g.far true) (g.far ∷ h)
    go e =
        let f : ℕ = g.far in
        let p = and_parts (at s g.near) _ e in
        let q = and_parts (not (at s f)) _ p.1 in
        let one = count_set s f known (not-true (at s f) q.0) in
        record {
          size = length-set s f true;
          keeps = in_set s f;
          sound = λ t c a. set_inside s t f a
              (subst (λ (x : Gateway). In t x.near → T (reads (held m v) x.rule) → In t x.far) (sym found) (All-get_or _ w.gates i g lt c) (a g.near (T_from_true _ p.0)) (T_from_true _ q.1));
          waits = omega arith;
          more = omega arith;
          settled = λ others x. settled_more others h s f x;
        }

    pub crossed : (s' : List Bool) (h' : List ℕ)
        → s' ≡ cond (leads (held m v) g.near g.far g.rule s) (set s g.far true) s
        → h' ≡ cond (leads (held m v) g.near g.far g.rule s) (g.far ∷ h) h
        → Widens m w v s h s' h' × Settled m v h' s' g
    crossed s' h' es eh =
        let on : Bool = leads (held m v) g.near g.far g.rule s in
        let goal : List Bool → List ℕ → Type 0 = λ a b. Widens m w v s h a b × Settled m v b a g in
        subst (λ a. goal a h') (sym es) (subst (λ b. goal (cond on (set s g.far true) s) b) (sym eh) (ways on refl)) where
          ways : (b : Bool) → leads (held m v) g.near g.far g.rule s ≡ b
              → Widens m w v s h (cond b (set s g.far true) s) (cond b (g.far ∷ h) h) × Settled m v (cond b (g.far ∷ h) h) (cond b (set s g.far true) s) g
          ways true e = (go e, λ near met. or_left (at (set s g.far true) g.far) _ (in_set_same s g.far known))
          ways false e = (widens_none s h, stays h s g e)

  -- the region whose gates are crossed waits no more
  no_longer : (x : ℕ) (h : List ℕ) (s : List Bool) (gates : List Gateway) → AllByRecursion (Settled m v (x ∷ h) s) gates → AllByRecursion (λ (g : Gateway). g.near ≡ x → Settled m v h s g) gates → AllByRecursion (Settled m v h s) gates
  no_longer x h s [] a b = tt
  no_longer x h s (g ∷ gates) a b = (elim (cases_eq g.near x) [ inl e ↦ b.0 e | inr n ↦ elsewhere x h s g n a.0 ], no_longer x h s gates a.1 b.1)

  widened : (x : ℕ) (s : List Bool) (h : List ℕ) (s' : List Bool) (h' : List ℕ) → Widens m w v s h s' h' → (gates : List Gateway) → AllByRecursion (Settled m v (x ∷ h) s) gates → AllByRecursion (Settled m v (x ∷ h') s') gates
  widened x s h s' h' a [] b = tt
  widened x s h s' h' a (g ∷ gates) b = (a.settled (x ∷ []) g b.0, widened x s h s' h' a gates b.1)

  pub underway_start : (s s₁ : List Bool) (h₁ : List ℕ) → Widens m w v s [] s₁ h₁ → AllByRecursion (Settled m v h₁ s₁) w.gates → Underway m w v s₁ s₁ h₁
  underway_start s s₁ h₁ a b = record { keeps = λ k t. t; sound = λ t c i. i; space = (let new = a.waits in omega arith); settled = b }

  pub underway_turn : (s₀ s : List Bool) (x : ℕ) (h : List ℕ) (s' : List Bool) (h' : List ℕ) → Underway m w v s₀ s (x ∷ h) → Widens m w v s h s' h' → Left m w v x h' s' → Underway m w v s₀ s' h'
  underway_turn s₀ s x h s' h' u a b =
      let new = a.waits in
      let few = u.space in
      record {
        keeps = λ k t. a.keeps k (u.keeps k t);
        sound = λ t c i. a.sound t c (u.sound t c i);
        space = omega arith;
        settled = no_longer x h' s' w.gates (widened x s h s' h' a w.gates u.settled) b;
      }

  -- nothing waits any more
  closed : (s : List Bool) (gates : List Gateway) → AllByRecursion (Settled m v [] s) gates → AllByRecursion (λ (g : Gateway). In s g.near → T (reads (held m v) g.rule) → In s g.far) gates
  closed s [] a = tt
  closed s (g ∷ gates) a = (λ near met. elim (or_cases (at s g.far) _ (a.0 near met)) [ inl t ↦ t | inr f ↦ absurd f ], closed s gates a.1)

  pub spread : (s₀ s₁ s : List Bool) (h₁ h : List ℕ) → Widens m w v s₀ [] s₁ h₁ → Underway m w v s₁ s h → h ≡ [] → Spread m w v s₀ s
  spread s₀ s₁ s h₁ h a u none = record {
    keeps = λ k t. u.keeps k (a.keeps k t);
    sound = λ t c o. u.sound t c (a.sound t c o);
    closed = closed s w.gates (subst (λ l. AllByRecursion (Settled m v l s) w.gates) none u.settled);
  }

-- the first marks of a row
pub in_take : (n : ℕ) (s : List Bool) (k : ℕ) → k < n → In s k → In (take n s) k
in_take n s k h t = subst T (sym (get_or-take n s k false h)) t

pub take_in : (n : ℕ) (s : List Bool) (k : ℕ) → In (take n s) k → In s k
take_in zero s k t = absurd t
take_in (suc n) [] k t = t
take_in (suc n) (b ∷ s) zero t = t
take_in (suc n) (b ∷ s) (suc k) t = take_in n s k t

module _ (m : Meaning) (w : Atlas) (v : m.Value) where
  closed_take : (s : List Bool) (gates : List Gateway) → AllByRecursion (ProperGate w) gates
      → AllByRecursion (λ (g : Gateway). In s g.near → T (reads (held m v) g.rule) → In s g.far) gates
      → AllByRecursion (λ (g : Gateway). In (take w.regions s) g.near → T (reads (held m v) g.rule) → In (take w.regions s) g.far) gates
  closed_take s [] a b = tt
  closed_take s (g ∷ gates) a b = (
    λ near met. in_take w.regions s g.far a.0.far_known (b.0 (take_in w.regions s g.near near) met),
    closed_take s gates a.1 b.1,
  )

  -- a closed set that has region 0 and is reached is all that is
  pub closed_reached : Proper w → ReachLaw m w v → (s : List Bool) → length s ≡ 64 → In s 0 → Closed m w v s → Sub s (reached m w v) → take w.regions s ≡ reached m w v
  closed_reached proper law s size starts is-closed within =
      let few = proper.few_regions in
      law.only (take w.regions s) (length-take-le w.regions s (omega arith))
      (in_take w.regions s 0 proper.some_region starts)
      (closed_take s w.gates proper.gates_lead is-closed)
      (λ k t. within k (take_in w.regions s k t))

  -- what spreads from region 0 alone is what is reached
  pub spread_reached : Proper w → ReachLaw m w v → (s : List Bool) → length s ≡ 64 → Spread m w v (set (replicate 64 false) 0 true) s → take w.regions s ≡ reached m w v
  spread_reached proper law s size o =
      let zeros : List Bool = replicate 64 false in
      closed_reached proper law s size (o.keeps 0 tt) o.closed
      (o.sound (reached m w v) law.closed (set_inside zeros (reached m w v) 0 (λ j u. absurd (none_in 64 j u)) law.starts))
