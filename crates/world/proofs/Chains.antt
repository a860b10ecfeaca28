-- The chains of gates that leave one region.
use Rattle.std.proofs.Common.{◌≡◌, ℕ, zero, suc, ◌<◌, ◌≤◌, cond, T, eqb, ltb, List, [], ◌∷◌, ◌++◌, map, length, get_or, set, Some, None, Option, sym, refl, ap, ◌∙◌, subst, inl, inr, add-one, arith, leb→le, length-append, length-set}
use lib.ListN.{length-map}
use Rattle.std.proofs.lemmas.List.{get_or_append_left, get_or_push, get_or-set_same, get_or-set_other, map_push}
use Rattle.std.proofs.lemmas.Bool.{cases_lt, cases_eq, eq-eqb, ne_eqb, cond-true, cond-false}
use Rattle.model.specs.declared.rule_word.RuleWord.{RuleWord}
use Rattle.model.specs.Marks.{every}
use Rattle.model.proofs.Sets.{and_both}
use Rattle.world.specs.declared.rows.Gate.{Gate}
use Rattle.world.specs.Rows.{gate_sound, near_at, earlier_at, last_leaving}

-- every gate leaves a region of the world
near_known : (regions : ℕ) (kinds : List ℕ) (table : List RuleWord) (gates : List Gate) (k : ℕ) → T (every (gate_sound regions kinds table) gates) → k < length gates → near_at gates k < regions
near_known regions kinds table [] k t h = absurd (omega arith)
near_known regions kinds table (g ∷ gates) zero t h = leb→le _ _ (and_both (ltb g.near regions) _ (and_both (gate_sound regions kinds table g) _ t).0).0
near_known regions kinds table (g ∷ gates) (suc k) t h = near_known regions kinds table gates k (and_both (gate_sound regions kinds table g) _ t).1 (omega arith)

none_leaving : (gates : List Gate) (r k : ℕ) → ((j : ℕ) → j < k → near_at gates j ≡ r → ⊥) → last_leaving gates r k ≡ None
none_leaving gates r zero h = refl
none_leaving gates r (suc k) h =
    cond-false (eqb (near_at gates k) r) (Some k) (last_leaving gates r k) (ne_eqb _ _ (h k (omega arith)))
    ∙ none_leaving gates r k (λ j lt. h j (omega arith))

-- a region that is new has no gates yet
pub new_chain : (kinds : List ℕ) (table : List RuleWord) (gates : List Gate) (latest : List (Option ℕ)) → T (every (gate_sound (length latest) kinds table) gates)
    → ((r : ℕ) → r < length latest → get_or latest r None ≡ last_leaving gates r (length gates))
    → (r : ℕ) → r < length (latest ++ None ∷ []) → get_or (latest ++ None ∷ []) r None ≡ last_leaving gates r (length gates)
new_chain kinds table gates latest t starts r h =
    let size = length-append latest (None ∷ []) in
    elim (cases_lt r (length latest)) [
      | inl lt ↦ get_or_append_left latest (None ∷ []) None r (omega arith) ∙ starts r lt
      | inr ge ↦ get_or_push latest None None r (omega arith) ∙ sym (none_leaving gates r (length gates) (λ j lt e. let n = near_known (length latest) kinds table gates j t lt in omega arith))
    ]

module _ (gates : List Gate) (g : Gate) where
  abbrev more : List Gate
  more = gates ++ g ∷ []

  size : length more ≡ suc (length gates)
  size = length-append gates (g ∷ []) ∙ add-one (length gates)

  nears : map (λ (x : Gate). x.near) more ≡ map (λ (x : Gate). x.near) gates ++ g.near ∷ []
  nears = map_push (λ (x : Gate). x.near) gates g

  near_before : (k : ℕ) → k < length gates → near_at more k ≡ near_at gates k
  near_before k h =
      let s = length-map gates (λ (x : Gate). x.near) in
      ap (λ (xs : List ℕ). get_or xs k 0) nears ∙ get_or_append_left (map (λ (x : Gate). x.near) gates) (g.near ∷ []) 0 k (omega arith)

  near_new : near_at more (length gates) ≡ g.near
  near_new = ap (λ (xs : List ℕ). get_or xs (length gates) 0) nears ∙ get_or_push (map (λ (x : Gate). x.near) gates) g.near 0 (length gates) (length-map gates (λ (x : Gate). x.near))

  earliers : map (λ (x : Gate). x.earlier) more ≡ map (λ (x : Gate). x.earlier) gates ++ g.earlier ∷ []
  earliers = map_push (λ (x : Gate). x.earlier) gates g

  earlier_before : (k : ℕ) → k < length gates → earlier_at more k ≡ earlier_at gates k
  earlier_before k h =
      let s = length-map gates (λ (x : Gate). x.earlier) in
      ap (λ (xs : List (Option ℕ)). get_or xs k None) earliers ∙ get_or_append_left (map (λ (x : Gate). x.earlier) gates) (g.earlier ∷ []) None k (omega arith)

  earlier_new : earlier_at more (length gates) ≡ g.earlier
  earlier_new = ap (λ (xs : List (Option ℕ)). get_or xs (length gates) None) earliers ∙ get_or_push (map (λ (x : Gate). x.earlier) gates) g.earlier None (length gates) (length-map gates (λ (x : Gate). x.earlier))

  leaving_before : (r k : ℕ) → k ≤ length gates → last_leaving more r k ≡ last_leaving gates r k
  leaving_before r zero h = refl
  leaving_before r (suc k) h =
      ap (λ (n : ℕ). cond (eqb n r) (Some k) (last_leaving more r k)) (near_before k (omega arith))
      ∙ ap (λ (n : Option ℕ). cond (eqb (near_at gates k) r) (Some k) n) (leaving_before r k (omega arith))

  leaving_new : (r : ℕ) → last_leaving more r (length more) ≡ cond (eqb g.near r) (Some (length gates)) (last_leaving gates r (length gates))
  leaving_new r =
      ap (last_leaving more r) size
      ∙ ap (λ (n : ℕ). cond (eqb n r) (Some (length gates)) (last_leaving more r (length gates))) near_new
      ∙ ap (λ (n : Option ℕ). cond (eqb g.near r) (Some (length gates)) n) (leaving_before r (length gates) (omega arith))

  pub chains_go_on : g.earlier ≡ last_leaving gates g.near (length gates)
      → ((k : ℕ) → k < length gates → earlier_at gates k ≡ last_leaving gates (near_at gates k) k)
      → (k : ℕ) → k < length more → earlier_at more k ≡ last_leaving more (near_at more k) k
  chains_go_on e go k h =
      let s = size in
      elim (cases_lt k (length gates)) [
        | inl lt ↦ earlier_before k lt ∙ go k lt ∙ ap (λ (r : ℕ). last_leaving gates r k) (sym (near_before k lt)) ∙ sym (leaving_before (near_at more k) k (omega arith))
        | inr ge ↦
            let at : length gates ≡ k = omega arith in
            subst (λ (j : ℕ). earlier_at more j ≡ last_leaving more (near_at more j) j) at
            (earlier_new ∙ e ∙ ap (λ (r : ℕ). last_leaving gates r (length gates)) (sym near_new) ∙ sym (leaving_before (near_at more (length gates)) (length gates) (omega arith)))
      ]

  pub chains_start : (latest : List (Option ℕ)) → g.near < length latest
      → ((r : ℕ) → r < length latest → get_or latest r None ≡ last_leaving gates r (length gates))
      → (r : ℕ) → r < length (set latest g.near (Some (length gates))) → get_or (set latest g.near (Some (length gates))) r None ≡ last_leaving more r (length more)
  chains_start latest n starts r h =
      let s = length-set latest g.near (Some (length gates)) in
      elim (cases_eq g.near r) [
        | inl e ↦
            subst (λ (j : ℕ). get_or (set latest g.near (Some (length gates))) j None ≡ last_leaving more j (length more)) e
            (get_or-set_same latest g.near (Some (length gates)) None (omega arith)
            ∙ sym (leaving_new g.near ∙ cond-true (eqb g.near g.near) (Some (length gates)) _ (eq-eqb g.near g.near refl)))
        | inr ne ↦
            get_or-set_other latest g.near r (Some (length gates)) None (λ q. ne (sym q)) ∙ starts r (omega arith)
            ∙ sym (leaving_new r ∙ cond-false (eqb g.near r) (Some (length gates)) _ (ne_eqb g.near r ne))
      ]
