-- Which placements are refused at no place.
use Rattle.std.proofs.Common.{◌≡◌, ℕ, zero, suc, ◌<◌, false, cond, ◌||◌, eqb, ltb, [], ◌∷◌, ◌++◌, Some, None, Option, sym, refl, ap, ◌∙◌, inl, inr, arith}
use Rattle.std.proofs.Math.Bool.{or-false, or_assoc}
use Rattle.std.proofs.lemmas.Option.{none-some}
use Rattle.std.proofs.lemmas.Bool.{cases_Bool, cond-true, cond-false, lt-ltb, ltb-true, eqb-true, eq-eqb, or_parts, or_from, both_ways}
use Rattle.model.specs.Placements.{Placement, item_at, Once}
use Rattle.model.specs.Boards.{is_item, is_set}
use Rattle.sheet.specs.declared.refusal.LoadRefusal.{LoadRefusal}
use Rattle.sheet.specs.declared.refusal.LoadRefusal.TheVariants.{OutsidePool, ItemTwice}
use Rattle.sheet.specs.Files.{entry_refusal, or_else, entries_refusal}

is_set_push : (seen : Placement) (o : Option ℕ) (i : ℕ) → is_set (seen ++ o ∷ []) i ≡ (is_set seen i || is_item i o)
unfolding is_set
is_set_push [] None i = refl
is_set_push [] (Some j) i = or-false (eqb i j)
is_set_push (x ∷ seen) o i = ap (λ b. is_item i x || b) (is_set_push seen o i) ∙ sym (or_assoc (is_item i x) (is_set seen i) (is_item i o))

both_none : (a b : Option LoadRefusal) → or_else a b ≡ None → (a ≡ None) × (b ≡ None)
both_none None b e = (refl, e)
both_none (Some why) b e = absurd (none-some why (sym e))

none_both : (a b : Option LoadRefusal) → a ≡ None → b ≡ None → or_else a b ≡ None
none_both a b e f = ap (λ (x : Option LoadRefusal). or_else x b) e ∙ f

-- of a place that is not refused: its item is of the pool, and was not seen
fine_here : (pool : ℕ) (seen : Placement) (i : ℕ) → entry_refusal pool seen (Some i) ≡ None → (i < pool) × (is_set seen i ≡ false)
fine_here pool seen i e =
    elim (cases_Bool (ltb i pool)) [
      | inl inside ↦
          let e' = sym (cond-true (ltb i pool) (cond (is_set seen i) (Some ItemTwice) None) (Some OutsidePool) inside) ∙ e in
          elim (cases_Bool (is_set seen i)) [
            | inl twice ↦ absurd (none-some ItemTwice (sym e' ∙ cond-true (is_set seen i) (Some ItemTwice) None twice))
            | inr new ↦ (ltb-true i pool inside, new)
          ]
      | inr outside ↦ absurd (none-some OutsidePool (sym e ∙ cond-false (ltb i pool) (cond (is_set seen i) (Some ItemTwice) None) (Some OutsidePool) outside))
    ]

here_fine : (pool : ℕ) (seen : Placement) (o : Option ℕ) → ((i : ℕ) → o ≡ Some i → (i < pool) × (is_set seen i ≡ false)) → entry_refusal pool seen o ≡ None
here_fine pool seen None h = refl
here_fine pool seen (Some i) h = cond-true (ltb i pool) _ _ (lt-ltb i pool (h i refl).0) ∙ cond-false (is_set seen i) (Some ItemTwice) None (h i refl).1

-- a placement of pool items that were not seen, each at one place, is refused nowhere
pub fine : (pool : ℕ) (seen p : Placement) → ((k i : ℕ) → item_at p k ≡ Some i → (i < pool) × (is_set seen i ≡ false)) → Once p → entries_refusal pool seen p ≡ None
fine pool seen [] known once = refl
fine pool seen (o ∷ p) known once =
    none_both _ _ (here_fine pool seen o (known 0))
    (fine pool (seen ++ o ∷ []) p
    (λ k i e. ((known (suc k) i e).0, is_set_push seen o i ∙ or_from (is_set seen i) (is_item i o) (known (suc k) i e).1 (elsewhere o i k e once)))
    (λ j k i a b. let e = once (suc j) (suc k) i a b in omega arith))
  where
    elsewhere : (o : Option ℕ) (i k : ℕ) → item_at p k ≡ Some i → Once (o ∷ p) → is_item i o ≡ false
    elsewhere None i k e once = refl
    elsewhere (Some j) i k e once =
        elim (cases_Bool (eqb i j)) [
          | inl same ↦ absurd (let z : 0 ≡ suc k = once 0 (suc k) i (ap Some (sym (eqb-true i j same))) e in omega arith)
          | inr apart ↦ apart
        ]

-- and what is refused nowhere is such a placement
pub record Fine (pool : ℕ) (seen p : Placement) : Type 0 where
  pub known : (k i : ℕ) → item_at p k ≡ Some i → (i < pool) × (is_set seen i ≡ false)
  pub once : Once p

module _ (pool : ℕ) (seen : Placement) (o : Option ℕ) (p : Placement) (here : entry_refusal pool seen o ≡ None) (later : Fine pool (seen ++ o ∷ []) p) where
  apart : (k i : ℕ) → item_at p k ≡ Some i → (is_set seen i ≡ false) × (is_item i o ≡ false)
  apart k i x = or_parts (is_set seen i) (is_item i o) (sym (is_set_push seen o i) ∙ (later.known k i x).1)

  all_known : (k i : ℕ) → item_at (o ∷ p) k ≡ Some i → (i < pool) × (is_set seen i ≡ false)
  all_known zero i x = fine_here pool seen i (ap (entry_refusal pool seen) (sym x) ∙ here)
  all_known (suc k) i x = ((later.known k i x).0, (apart k i x).0)

  not_here : (k i : ℕ) → o ≡ Some i → item_at p k ≡ Some i → ⊥
  not_here k i a b = both_ways (is_item i o) (apart k i b).1 (ap (is_item i) a ∙ eq-eqb i i refl)

  all_once : Once (o ∷ p)
  all_once zero zero i a b = refl
  all_once zero (suc k) i a b = absurd (not_here k i a b)
  all_once (suc j) zero i a b = absurd (not_here j i b a)
  all_once (suc j) (suc k) i a b = ap suc (later.once j k i a b)

pub is_fine : (pool : ℕ) (seen p : Placement) → entries_refusal pool seen p ≡ None → Fine pool seen p
is_fine pool seen [] e = record { known = λ k i x. absurd (none-some i x); once = λ j k i a b. absurd (none-some i a) }
is_fine pool seen (o ∷ p) e =
    let both = both_none (entry_refusal pool seen o) (entries_refusal pool (seen ++ o ∷ []) p) e in
    let later = is_fine pool (seen ++ o ∷ []) p both.1 in
    record { known = all_known pool seen o p both.0 later; once = all_once pool seen o p both.0 later }
