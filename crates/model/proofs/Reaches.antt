-- The reached regions are the least set with region 0 that is closed under the gates that are passed, and how long each table is.
use Rattle.std.proofs.Common.{◌≡◌, ℕ, ◌<◌, Bool, false, ◌&&◌, T, eqb, List, [], ◌∷◌, length, get_or, sym, ap, ◌∙◌, subst, inl, inr, eqb→eq}
use lib.Dec.{eqb_refl}
use Rattle.std.specs.List.{AllByRecursion}
use Rattle.std.proofs.lemmas.List.{get_or-map}
use Rattle.inventory.specs.Meaning.{Meaning, Lawful, held}
use Rattle.model.specs.Marks.{at, In, Sub, tabulate, any}
use Rattle.model.specs.Rules.{reads}
use Rattle.model.specs.Worlds.{World, Gate, Place, widened, reached, opens}
use Rattle.model.specs.Proper.{Proper, ProperGate}
use Rattle.model.specs.Laws.{Closed, ReachLaw, TableLaws}
use Rattle.model.proofs.Sets.{and_both, and_from, or_left, or_right, or_cases, in_tabulate, tabulate_in, length_tabulate, in_length, iterate_least, iterate_start, iterate_settles, same_set}
use Rattle.model.proofs.Grows.{widened_grow, length_opens, length_round, length_gathered, length_finishable}

any_use : {A : Type 0} (f : A → Bool) (P : A → Type 0) (Q : Type 0) → ((x : A) → P x → T (f x) → Q) → (xs : List A) → AllByRecursion P xs → T (any f xs) → Q
any_use f P Q h [] a t = absurd t
any_use f P Q h (x ∷ xs) a t = elim (or_cases (f x) (any f xs) t) [ inl y ↦ h x a.0 y | inr z ↦ any_use f P Q h xs a.1 z ]

module _ (m : Meaning) (l : Lawful m) (w : World) (v : m.Value) where
  -- whether a gate leads from the set to the region
  abbrev crossed : List Bool → ℕ → Gate → Bool
  crossed s r g = at s g.near && eqb g.far r && reads (held m v) g.rule

  start_up : (s : List Bool) → length s ≡ w.regions → Sub s (widened m w v s)
  unfolding widened
  start_up s e k t = in_tabulate w.regions _ k (subst (λ n. k < n) e (in_length s k t)) (or_left (at s k) _ t)

  settled : widened m w v (reached m w v) ≡ reached m w v
  unfolding reached widened
  settled = iterate_settles (widened m w v) (widened_grow m l w v v (l.reflexive v)) (tabulate w.regions (λ r. eqb r 0)) w.regions (length_tabulate w.regions _) (λ s. length_tabulate w.regions _) (start_up _ (length_tabulate w.regions _))

  crosses_from : (s : List Bool) (gates : List Gate) → ((r : ℕ) → T (any (crossed s r) gates) → T (any (crossed s r) w.gates))
      → AllByRecursion (ProperGate w) gates
      → AllByRecursion (λ (g : Gate). In s g.near → T (reads (held m v) g.rule) → In (widened m w v s) g.far) gates
  unfolding widened
  crosses_from s [] k a = tt
  crosses_from s (g ∷ gates) k a = (
    λ t r. in_tabulate w.regions _ g.far a.0.far_known (or_right (at s g.far) _ (k g.far (or_left (crossed s g.far g) _ (and_from _ _ (and_from _ _ t (eqb_refl g.far)) r)))),
    crosses_from s gates (λ r t. k r (or_right (crossed s r g) _ t)) a.1,
  )

  least_reached : (s : List Bool) → In s 0 → Closed m w v s → Sub (reached m w v) s
  unfolding reached widened
  least_reached s z c =
      iterate_least (widened m w v) (widened_grow m l w v v (l.reflexive v)) (tabulate w.regions (λ r. eqb r 0)) s
      (λ k t. subst (λ x. In s x) (sym (eqb→eq k 0 (tabulate_in w.regions (λ r. eqb r 0) k t).1)) z)
      (λ r t. elim (or_cases (at s r) _ (tabulate_in w.regions _ r t).1) [
        | inl y ↦ y
        | inr y ↦ any_use (crossed s r) _ (In s r)
            (λ g cross f.
            let parts = and_both _ _ f in
            let ends = and_both _ _ parts.0 in
            subst (λ x. In s x) (eqb→eq g.far r ends.1) (cross ends.0 parts.1))
            w.gates c y
      ])
      w.regions

  pub length_reached : length (reached m w v) ≡ w.regions
  unfolding widened
  length_reached = ap length (sym settled) ∙ length_tabulate w.regions _

  pub reach_law : Proper w → ReachLaw m w v
  unfolding reached widened
  reach_law proper = record {
    starts = iterate_start (widened m w v) (widened_grow m l w v v (l.reflexive v)) (tabulate w.regions (λ r. eqb r 0)) (start_up _ (length_tabulate w.regions _)) w.regions 0 (in_tabulate w.regions (λ r. eqb r 0) 0 proper.some_region tt);
    closed = subst (λ s. AllByRecursion (λ (g : Gate). In (reached m w v) g.near → T (reads (held m v) g.rule) → In s g.far) w.gates) settled (crosses_from (reached m w v) w.gates (λ r t. t) proper.gates_lead);
    least = least_reached;
    only = λ s e z c k. same_set s (reached m w v) (e ∙ sym length_reached) k (least_reached s z c);
  }

pub open_at : (m : Meaning) (w : World) (v : m.Value) (k : ℕ) (other : Place) → k < length w.places
    → at (opens m w v) k ≡ (at (reached m w v) (get_or w.places k other).region && reads (held m v) (get_or w.places k other).rule)
unfolding opens
open_at m w v k other h = get_or-map (λ (q : Place). at (reached m w v) q.region && reads (held m v) q.rule) w.places k other false h

pub table_laws : (m : Meaning) → Lawful m → TableLaws m
table_laws m l = record {
  regions_reached = λ w v. length_reached m l w v;
  places_open = λ w v. length_opens m l w v;
  places_in_round = λ w p v k. length_round m l w p v k;
  places_gathered = λ w p v. length_gathered m l w p v;
  places_finishable = length_finishable m l;
  open_at = open_at m;
}
