-- What start accepts is whole, so that a run never stalls.
use Rattle.std.proofs.Common.{◌≡◌, ℕ, zero, suc, ◌<◌, ◌≤◌, not, T, eqb, ltb, ◌↔◌, [], ◌∷◌, length, Some, None, Ok, Err, Result, sym, refl, ap, ◌∙◌, subst, inl, inr, zero-add, arith, eqb→eq, ltb→lt, lt→ltb, T_not}
use lib.Dec.{eqb_refl}
use Rattle.inventory.specs.Meaning.{Meaning, Lawful}
use Rattle.model.specs.declared.run_refusal.RunRefusal.{RunRefusal}
use Rattle.model.specs.Marks.{In, any, work_marks}
use Rattle.model.specs.Worlds.{World, finishable}
use Rattle.model.specs.Placements.{Placement, item_at, sphere, Once, Lies, Whole, whole}
use Rattle.model.specs.Runs.{Course, outside, new_course, started, run_after, takes}
use Rattle.model.proofs.Sets.{or_left, or_right, or_cases, cond_ways, yes_or_no, none_some, none_sub}
use Rattle.model.proofs.Items.{mem_test, test_mem}
use Rattle.model.proofs.Spheres.{whole_laws}
use Rattle.promises.specs.Promises.{NeverStalls, RunsNeverStall, StartsAreWhole, places_taken, TakesAreKept}
use Rattle.promises.proofs.Held.{some_same, not_both}
use Rattle.promises.proofs.Steps.{not_not}
use Rattle.promises.proofs.Takes.{same_some, Well, well_none, run_goes_on, never_stalls}

refused_started : {A : Type 0} (e : RunRefusal) (c : Course) → ◌≡◌ {A = Result Course RunRefusal} (Err e) (Ok c) → A
refused_started e c q = let z : ◌≡◌ {A = ℕ} 0 1 = cc in let y : ⊥ = omega arith in absurd y

same_course : (c d : Course) → ◌≡◌ {A = Result Course RunRefusal} (Ok c) (Ok d) → c ≡ d
same_course c d e = cc

module _ (w : World) where
  all_known : (p : Placement) → (T (any (outside w) p) → ⊥) → (k i : ℕ) → item_at p k ≡ Some i → i < length w.pool
  all_known [] n k i e = none_some i e
  all_known (None ∷ p) n zero i e = none_some i e
  all_known (None ∷ p) n (suc k) i e = all_known p n k i e
  all_known (Some j ∷ p) n zero i e =
      subst (λ x. x < length w.pool) (some_same j i e)
      (ltb→lt j (length w.pool) (not_not (ltb j (length w.pool)) (λ t. n (or_left (not (ltb j (length w.pool))) _ t))))
  all_known (Some j ∷ p) n (suc k) i e = all_known p (λ t. n (or_right (not (ltb j (length w.pool))) _ t)) k i e

  none_outside : (p : Placement) → ((k i : ℕ) → item_at p k ≡ Some i → i < length w.pool) → T (any (outside w) p) → ⊥
  none_outside [] h t = t
  none_outside (None ∷ p) h t = none_outside p (λ k. h (suc k)) t
  none_outside (Some j ∷ p) h t =
      elim (or_cases (not (ltb j (length w.pool))) _ t) [
        | inl u ↦ T_not (ltb j (length w.pool)) u (lt→ltb j (length w.pool) (h 0 j refl))
        | inr u ↦ none_outside p (λ k. h (suc k)) u
      ]

module _ (m : Meaning) (l : Lawful m) (w : World) (p : Placement) where
  -- what an accepted start says
  abbrev Begins : Result Course RunRefusal → Type 0
  Begins r = (c : Course) → r ≡ Ok c → Whole m w p × (new_course w p ≡ c)

  started_whole : Once p → (lent : ℕ) → Begins (started m w p lent)
  started_whole once lent =
      cond_ways Begins (ltb lent work_marks) _ _ (λ t c e. refused_started _ c e) (λ n₁.
      cond_ways Begins (not (eqb (length p) (length w.places))) _ _ (λ t c e. refused_started _ c e) (λ n₂.
      cond_ways Begins (any (outside w) p) _ _ (λ t c e. refused_started _ c e) (λ n₃.
      cond_ways Begins (not (whole m w p)) _ _ (λ t c e. refused_started _ c e) (λ n₄ c e.
      let lies : Lies w p = record { fits = eqb→eq _ _ (not_not (eqb (length p) (length w.places)) n₂); known = all_known w p n₃ } in (
        ((whole_laws m l).told w p (record { lies = lies; once = once })).0 (not_not (whole m w p) n₄),
        same_course _ c e,
      )))))

  abbrev Begun : Result Course RunRefusal → Type 0
  Begun r = r ≡ Ok (new_course w p)

  whole_started : Whole m w p → (lent : ℕ) → work_marks ≤ lent → Begun (started m w p lent)
  whole_started every lent h =
      cond_ways Begun (ltb lent work_marks) _ _ (λ t. let z : ⊥ = omega (arith, ltb→lt lent work_marks t) in absurd z) (λ n₁.
      cond_ways Begun (not (eqb (length p) (length w.places))) _ _
      (λ t. absurd (T_not (eqb (length p) (length w.places)) t (subst (λ n. T (eqb (length p) n)) every.placed.lies.fits (eqb_refl (length p))))) (λ n₂.
      cond_ways Begun (any (outside w) p) _ _ (λ t. absurd (none_outside w p every.placed.lies.known t)) (λ n₃.
      cond_ways Begun (not (whole m w p)) _ _ (λ t. absurd (T_not (whole m w p) t (((whole_laws m l).told w p every.placed).1 every))) (λ n₄. refl))))

  sphere_finishable : Whole m w p → (k : ℕ) → ((r : ℕ) × (sphere m w p k ≡ Some r)) → In (finishable m w) k
  sphere_finishable every k s = elim (yes_or_no _) [
    | inl t ↦ t
    | inr n ↦ not_both (sphere m w p k) s.0 (((whole_laws m l).finishes w p every).no_spheres k n) s.1
  ]

pub starts_are_whole : (m : Meaning) → Lawful m → StartsAreWhole m
starts_are_whole m l = record {
  accepts = λ w p lent once h. (λ e. (started_whole m l w p once lent _ e).0, λ every. whole_started m l w p every lent h);
  spheres = λ w p every k. (((whole_laws m l).finishes w p every).spheres k, sphere_finishable m l w p every k);
}

pub runs_never_stall : (m : Meaning) → Lawful m → RunsNeverStall m
runs_never_stall m l w p lent c once e asks =
    let begun = started_whole m l w p once lent c e in
    subst (λ c. (c' : Course) × (run_after m (Some c) asks ≡ Some c') × NeverStalls m w p c' (takes m (Some c) asks)) begun.1 (
    let n : ℕ = takes m (Some (new_course w p)) asks in
    let g = run_goes_on m l w p begun.0.placed _ 0 (well_none m l w p) asks in (
      record { world = w; placement = p; taken = g.then },
      g.is,
      never_stalls m l w p begun.0 g.then n (subst (λ k. Well m l w p g.then k) (zero-add n) g.well),
    ))

pub takes_are_kept : (m : Meaning) → Lawful m → TakesAreKept m
takes_are_kept m l w p lent c once e asks c' after k =
    let begun = started_whole m l w p once lent c e in
    subst (λ c. run_after m (Some c) asks ≡ Some c' → In c'.taken k ↔ T (any (eqb k) (places_taken m (Some c) asks))) begun.1
    (λ after.
    let g = run_goes_on m l w p begun.0.placed _ 0 (well_none m l w p) asks in
    let same : g.then ≡ c'.taken = ap (λ d. d.taken) (same_some _ c' (sym g.is ∙ after)) in (
      λ t. elim (g.came k (subst (λ s. In s k) (sym same) t)) [ inl u ↦ absurd (none_sub w.places [] k u) | inr u ↦ mem_test k _ u ],
      λ t. subst (λ s. In s k) same (g.kept k (test_mem k _ t)),
    )) after
