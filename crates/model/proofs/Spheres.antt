-- What is gathered has a sphere, and a whole placement gathers what can be finished.
use Rattle.std.proofs.Common.{◌≡◌, ℕ, zero, suc, ◌+◌, ◌<◌, ◌≤◌, Bool, T, List, [], length, Some, None, Option, sym, refl, ◌∙◌, subst, suc-le-suc, zero-le, arith}
use Rattle.inventory.specs.Meaning.{Meaning, Lawful}
use Rattle.model.specs.Marks.{at, In, Sub}
use Rattle.model.specs.Worlds.{World, pool_items, stocked, finishable}
use Rattle.model.specs.Placements.{Placement, lying, gains, round, gathered, sphere, Placed, Whole, whole}
use Rattle.model.specs.Laws.{SphereLaw, WholeLaw, WholeLaws}
use Rattle.model.proofs.Sets.{none_sub, in_length, same_set, First, first_some, first_finds}
use Rattle.model.proofs.Grows.{items_below, opens_grow, length_gathered, length_finishable, gathered_settles, round_gathered}
use Rattle.model.proofs.Items.{mem_test, test_mem, every_of, of_every, mem_counting, counting_mem, distinct_counting, lying_mem, mem_lying, distinct_lying, worth_below}

module _ (m : Meaning) (l : Lawful m) (w : World) (p : Placement) where
  abbrev found : List Bool
  found = gathered m w p (stocked m w)

  pub sphere_is : (k r : ℕ) → sphere m w p k ≡ Some r → First (length w.places) 1 (λ r. at (round m w p (stocked m w) r) k) r
  unfolding sphere
  sphere_is k r e = first_some (length w.places) 1 _ r e

  pub sphere_found : (k r : ℕ) → 1 ≤ r → r < 1 + length w.places → In (round m w p (stocked m w) r) k → (s : ℕ) × (sphere m w p k ≡ Some s)
  unfolding sphere
  sphere_found k r f h t = first_finds (length w.places) 1 _ r f h t

  not_at_first : (k : ℕ) → In (round m w p (stocked m w) 0) k → ⊥
  unfolding round
  not_at_first k t = none_sub w.places [] k t

  too_early : (k r j : ℕ) → sphere m w p k ≡ Some r → j < r → In (round m w p (stocked m w) j) k → ⊥
  too_early k r zero e h t = not_at_first k t
  too_early k r (suc j) e h t = let q = (sphere_is k r e).lowest (suc j) (suc-le-suc zero-le) t in omega arith

  gathered_place : (k : ℕ) → In found k → k < length w.places
  gathered_place k t = subst (λ n. k < n) (length_gathered m l w p (stocked m w)) (in_length found k t)

  has_sphere : (k : ℕ) → In found k → (r : ℕ) × (sphere m w p k ≡ Some r)
  unfolding gathered
  has_sphere k t = let h = gathered_place k t in sphere_found k (length w.places) (omega arith) (omega arith) t

  sphere_gathered : (k r : ℕ) → sphere m w p k ≡ Some r → In found k
  sphere_gathered k r e = round_gathered m l w p (stocked m w) r k (sphere_is k r e).passes

  no_sphere : (k : ℕ) → (In found k → ⊥) → sphere m w p k ≡ None
  no_sphere k n = go (sphere m w p k) refl
    where
      go : (o : Option ℕ) → sphere m w p k ≡ o → sphere m w p k ≡ None
      go None e = e
      go (Some r) e = absurd (n (sphere_gathered k r e))

  pub sphere_law : SphereLaw m w p
  sphere_law = record { there = λ k r e. (sphere_is k r e).passes; not_before = too_early; some = has_sphere; none = no_sphere }

  -- what lies in a set of places is of the pool
  pub gains_finishable : Placed w p → (s : List Bool) → Sub (gains m w p (stocked m w) s) (finishable m w)
  unfolding gains finishable
  gains_finishable placed s =
      opens_grow m l w _ _ (items_below m l w _ _ (lying p s) (pool_items w) (l.reflexive (stocked m w))
      (worth_below m l w (lying p s) (pool_items w) (distinct_lying p s placed.once)
      (λ x t. let r = mem_lying p s x t in mem_counting 0 (length w.pool) x zero-le (let q = placed.lies.known r.0 x r.1 in omega arith))))

  -- where a whole placement's gathered places are in a set, the whole pool lies in it
  pub finishable_gains : Whole m w p → (s : List Bool) → Sub found s → Sub (finishable m w) (gains m w p (stocked m w) s)
  unfolding gains finishable
  finishable_gains every s h =
      opens_grow m l w _ _ (items_below m l w _ _ (pool_items w) (lying p s) (l.reflexive (stocked m w))
      (worth_below m l w (pool_items w) (lying p s) (distinct_counting 0 (length w.pool))
      (λ x t.
      let c = counting_mem 0 (length w.pool) x t in
      let r = every.every x (omega arith) in
      lying_mem p s r.0 x r.1 (h r.0 r.2))))

  gathers_all : Whole m w p → found ≡ finishable m w
  gathers_all every =
      let settled = gathered_settles m l w p (stocked m w) in
      same_set found (finishable m w) (length_gathered m l w p (stocked m w) ∙ sym (length_finishable m l w))
      (subst (λ s. Sub s (finishable m w)) settled (gains_finishable every.placed found))
      (subst (λ s. Sub (finishable m w) s) settled (finishable_gains every found (λ k t. t)))

  whole_law : Whole m w p → WholeLaw m w p
  whole_law every = let e = gathers_all every in record {
    gathers = e;
    spheres = λ k t. has_sphere k (subst (λ s. In s k) (sym e) t);
    no_spheres = λ k n. no_sphere k (λ t. n (subst (λ s. In s k) e t));
  }

  whole_of : Placed w p → T (whole m w p) → Whole m w p
  unfolding whole
  whole_of placed t = record {
    placed = placed;
    every = λ i h. mem_lying p _ i (test_mem i _ (every_of _ (pool_items w) t i (mem_counting 0 (length w.pool) i zero-le (omega arith))));
  }

  of_whole : Whole m w p → T (whole m w p)
  unfolding whole
  of_whole every = of_every _ (pool_items w) (λ i t.
      let c = counting_mem 0 (length w.pool) i t in
      let r = every.every i (omega arith) in
      mem_test i _ (lying_mem p _ r.0 i r.1 r.2))

pub whole_laws : (m : Meaning) → Lawful m → WholeLaws m
whole_laws m l = record { finishes = whole_law m l; told = λ w p placed. (whole_of m l w p placed, of_whole m l w p) }
