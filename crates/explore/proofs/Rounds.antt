-- Rounds of gathering, by marks.
use Rattle.std.proofs.Common.{◌≡◌, ℕ, zero, suc, ◌+◌, ◌-◌, ◌<◌, ◌≤◌, Bool, true, false, cond, List, length, get_or, replicate, Some, None, sym, refl, ap, ◌∙◌, subst, add-zero, arith}
use Rattle.std.proofs.lemmas.Simd.{splat_is_map}
use Rattle.inventory.specs.Meaning.{Meaning, Lawful}
use Rattle.scratch.specs.Marks.{place_marks}
use Rattle.model.specs.Marks.{at, In, Sub, first}
use Rattle.model.specs.Proper.{Proper}
use Rattle.model.specs.Worlds.{World as Atlas, stocked, with_items, opens}
use Rattle.model.specs.Placements.{Placement, lying, gains, round, gathered, sphere}
use Rattle.model.proofs.Sets.{in_length}
use Rattle.model.proofs.Grows.{round_rises, length_gathered}
use Rattle.model.proofs.Spheres.{sphere_law}
use Rattle.explore.specs.Marked.{places_in}
use Rattle.explore.proofs.Marked.{no_places_in, at_places_in}

module _ (m : Meaning) (w : Atlas) (p : Placement) (v : m.Value) where
  pub round_none : (places : List ℕ) → Proper w → place_marks places ≡ replicate 256 false → places_in w places ≡ round m w p v 0
  unfolding round
  round_none places proper e = no_places_in w places proper e ∙ splat_is_map w.places (length w.places) false refl

  pub round_next : (s t : List Bool) (k : ℕ) → s ≡ round m w p v k → t ≡ gains m w p v s → t ≡ round m w p v (suc k)
  unfolding round
  round_next s t k e f = f ∙ ap (gains m w p v) e

  pub round_below : Lawful m → (s : List Bool) (k : ℕ) → s ≡ round m w p v k → Sub s (gains m w p v s)
  unfolding round
  round_below l s k e j t = subst (λ x. In x j) (sym (ap (gains m w p v) e)) (round_rises m l w p v k j (subst (λ x. In x j) e t))

  pub gains_are : (u : m.Value) (s : List Bool) → u ≡ with_items m w v (lying p s) → opens m w u ≡ gains m w p v s
  unfolding gains
  gains_are u s e = ap (opens m w) e

  stays : (k : ℕ) → gains m w p v (round m w p v k) ≡ round m w p v k → (j : ℕ) → round m w p v (k + j) ≡ round m w p v k
  unfolding round
  stays k e zero = ap (round m w p v) (add-zero k)
  stays k e (suc j) = let one : k + suc j ≡ suc (k + j) = omega arith in ap (round m w p v) one ∙ ap (gains m w p v) (stays k e j) ∙ e

-- the first of n numbers that passes a test, once those below k did not
module _ (n k : ℕ) (f : ℕ → Bool) (h : k ≤ n) (e : first (n + 1 - k) k f ≡ first n 1 f) where
  split : first (n + 1 - k) k f ≡ cond (f k) (Some k) (first (n - k) (suc k) f)
  split = let one : n + 1 - k ≡ suc (n - k) = omega arith in ap (λ j. first j k f) one

  pub first_here : f k ≡ true → Some k ≡ first n 1 f
  first_here t = sym (sym e ∙ split ∙ ap (λ b. cond b (Some k) (first (n - k) (suc k) f)) t)

  later : f k ≡ false → first (n - k) (suc k) f ≡ first n 1 f
  later t = sym (ap (λ b. cond b (Some k) (first (n - k) (suc k) f)) t) ∙ sym split ∙ e

  pub first_on : f k ≡ false → first (n + 1 - (k + 1)) (k + 1) f ≡ first n 1 f
  first_on t =
      let left : n + 1 - (k + 1) ≡ n - k = omega arith in
      let one : k + 1 ≡ suc k = omega arith in
      ap (λ j. first j (k + 1) f) left ∙ ap (λ j. first (n - k) j f) one ∙ later t

  pub first_end : n ≤ k → f k ≡ false → None ≡ first n 1 f
  first_end all t = let none : n - k ≡ 0 = omega arith in sym (ap (λ j. first j (suc k) f) none) ∙ later t

-- none of n numbers passes where none is left
pub first_none : (n i : ℕ) (f : ℕ → Bool) → n ≤ i → first (n - i) (suc i) f ≡ first n 1 f → None ≡ first n 1 f
first_none n i f h e = let none : n - i ≡ 0 = omega arith in sym (ap (λ k. first k (suc i) f) none) ∙ e

first_never : (n k : ℕ) (f : ℕ → Bool) → ((j : ℕ) → f (k + j) ≡ false) → first n k f ≡ None
first_never zero k f h = refl
first_never (suc n) k f h =
    ap (λ b. cond b (Some k) (first n (suc k) f)) (ap f (sym (add-zero k)) ∙ h 0)
    ∙ first_never n (suc k) f (λ j. let one : suc k + j ≡ k + suc j = omega arith in ap f one ∙ h (suc j))

module _ (m : Meaning) (w : Atlas) (p : Placement) (v : m.Value) where
  -- a round that adds nothing, and has not the place
  pub first_settled : (s t : List Bool) (n j k q : ℕ) → k ≡ suc j → s ≡ round m w p v j → t ≡ gains m w p v s → t ≡ s → at t q ≡ false
      → first (n + 1 - k) k (λ r. at (round m w p v r) q) ≡ first n 1 (λ r. at (round m w p v r) q) → None ≡ first n 1 (λ r. at (round m w p v r) q)
  first_settled s t n j k q one es et same out e =
      let settled : gains m w p v (round m w p v j) ≡ round m w p v j = ap (gains m w p v) (sym es) ∙ sym et ∙ same ∙ es in
      sym (first_never (n + 1 - k) k (λ r. at (round m w p v r) q) (λ i.
      let more : k + i ≡ j + suc i = omega arith in
      ap (λ r. at (round m w p v r) q) more ∙ ap (λ x. at x q) (stays m w p v j settled (suc i) ∙ sym es ∙ sym same) ∙ out)) ∙ e

-- a round is done in the marked places: what they are then, and what is read of one
pub round_done : (m : Meaning) (w : Atlas) (p : Placement) (v u : m.Value) (before after : List ℕ) (k q : ℕ) → u ≡ v → 1 ≤ k → places_in w before ≡ round m w p v (k - 1) → places_in w after ≡ gains m w p u (places_in w before) → q < length w.places
    → (places_in w after ≡ round m w p v k) × (at (round m w p v k) q ≡ get_or (place_marks after) q false)
unfolding round
round_done m w p v u before after k q start some e f h =
    let one : suc (k - 1) ≡ k = omega arith in
    let next : places_in w after ≡ round m w p v k = f ∙ ap (λ x. gains m w p x (places_in w before)) start ∙ ap (gains m w p v) e ∙ ap (round m w p v) one in
    (next, ap (λ s. at s q) (sym next) ∙ at_places_in w after q h)

-- a place that the world does not have is in no sphere
pub no_sphere : (m : Meaning) → Lawful m → (w : Atlas) (p : Placement) (k : ℕ) → length w.places ≤ k → None ≡ sphere m w p k
no_sphere m l w p k h = sym ((sphere_law m l w p).none k (λ t.
    let lt = in_length (gathered m w p (stocked m w)) k t in
    let size = length_gathered m l w p (stocked m w) in
    omega arith))
