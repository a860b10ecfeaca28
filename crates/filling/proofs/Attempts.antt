-- From one item of an attempt to the next, and from one attempt to the next: what is left gives the whole.
use Rattle.std.proofs.Common.{◌≡◌, ℕ, suc, ◌+◌, ◌-◌, ◌<◌, ◌≤◌, eqb, List, length, get_or, set, Some, None, Ok, Err, sym, ap, ◌∙◌, add-one, arith}
use Rattle.std.specs.List.{remove}
use Rattle.std.proofs.lemmas.List.Edits.{length-remove}
use Rattle.std.proofs.lemmas.Bool.{cond-true, cond-false, eq-eqb, ne_eqb}
use Rattle.inventory.specs.Meaning.{Meaning}
use Rattle.draw.specs.Source.{Source, Fair}
use Rattle.model.specs.declared.board_refusal.BoardRefusal.TheVariants.{NoCandidate}
use Rattle.model.specs.Worlds.{World as Atlas}
use Rattle.model.specs.Placements.{Placement}
use Rattle.model.specs.Boards.{unset}
use Rattle.model.specs.Fills.{Outcome, complete, stuck, Filling, candidates, attempt, tries}
use Rattle.filling.specs.Steps.{picked, others, SetOne, SetNone}
use Rattle.filling.specs.Filled.{idle, ending}

module _ (m : Meaning) (w : Atlas) (s : Source) where
  module _ (x : s.State) (p : Placement) (left : List ℕ) (some : 0 < length left) (x' : s.State) (p' : Placement) (left' : List ℕ) where
    -- an item without a candidate ends the attempt
    pub item_ends : (item : ℕ) → SetNone m w s x p left x' p' left' item → ending m w s x p left ≡ stuck item x'
    unfolding ending picked others
    item_ends item step =
        let n = length left - 1 in
        let one : length left ≡ suc n = omega arith in
        let rest = remove left (s.drawn x (length left)) in
        let x₁ = s.after x (length left) in
        let found = candidates m w p rest in
        ap (λ k. attempt m w s k x p left) one
        ∙ cond-true (eqb (length found) 0) (stuck (picked s x left) x₁) _ (eq-eqb (length found) 0 step.none)
        ∙ ap (λ i. stuck i x₁) (sym step.drawn) ∙ ap (stuck item) (sym step.state)

    module _ (fair : Fair s) (step : SetOne m w s x p left x' p' left') where
      pub item_fewer : length left' + 1 ≡ length left
      unfolding others
      item_fewer = ap (λ l. length l + 1) step.rest ∙ length-remove left _ (fair.below x (length left) some)

      -- with the others it goes on
      pub item_set : ending m w s x' p' left' ≡ ending m w s x p left
      unfolding ending picked others
      item_set =
          let n = length left - 1 in
          let one : length left ≡ suc n = omega arith in
          let fewer = item_fewer in
          let size : length left' ≡ n = omega arith in
          let rest = remove left (s.drawn x (length left)) in
          let x₁ = s.after x (length left) in
          let found = candidates m w p rest in
          let x₂ = s.after x₁ (length found) in
          let p₂ = set p (get_or found (s.drawn x₁ (length found)) 0) (Some (picked s x left)) in
          let some-found = step.some in
          ap (λ k. attempt m w s k x' p' left') size
          ∙ ap (λ y. attempt m w s n y p' left') step.state
          ∙ ap (λ q. attempt m w s n x₂ q left') step.placement
          ∙ ap (attempt m w s n x₂ p₂) step.rest
          ∙ sym (ap (λ k. attempt m w s k x p left) one ∙ cond-false (eqb (length found) 0) _ (attempt m w s n x₂ p₂ rest) (ne_eqb (length found) 0 (λ e. omega arith)))

  pub all_set : (x : s.State) (p : Placement) (left : List ℕ) → length left ≡ 0 → ending m w s x p left ≡ complete p x
  unfolding ending
  all_set x p left none = ap (λ n. attempt m w s n x p left) none

  -- each attempt begins with the items that are not set
  pub attempt_begins : (x : s.State) (start p : Placement) (left : List ℕ) → p ≡ start → left ≡ unset w p → ending m w s x start (unset w start) ≡ ending m w s x p left
  attempt_begins x start p left same all = ap (λ q. ending m w s x q (unset w q)) (sym same) ∙ ap (ending m w s x p) (sym all)

  -- what follows the end of an attempt, the nth, with more of them to come
  abbrev judged : Placement → (more nth : ℕ) → Outcome s.State → Filling s.State
  judged p more nth o =
      elim o [
        | complete q x ↦ record { answer = Ok nth; board = record { placement = q; hand = None }; state = x }
        | stuck item x ↦ tries m w s (idle p) more (suc nth) x item
      ]

  module _ (p : Placement) (attempts nth : ℕ) (x : s.State) (last : ℕ) (more : nth ≤ attempts) where
    pub attempt_fails : (item : ℕ) (x' : s.State) → ending m w s x p (unset w p) ≡ stuck item x' →
        tries m w s (idle p) (attempts + 1 - (nth + 1)) (nth + 1) x' item ≡ tries m w s (idle p) (attempts + 1 - nth) nth x last
    unfolding ending
    attempt_fails item x' e =
        let rest = attempts - nth in
        let one : attempts + 1 - nth ≡ suc rest = omega arith in
        let fewer : attempts + 1 - (nth + 1) ≡ rest = omega arith in
        ap (λ k. tries m w s (idle p) k (nth + 1) x' item) fewer ∙ ap (λ n. tries m w s (idle p) rest n x' item) (add-one nth) ∙ sym (ap (λ n. tries m w s (idle p) n nth x last) one ∙ ap (judged p rest nth) e)

    -- an attempt that was left at an item
    pub attempt_left : (q : Placement) (y : s.State) (left : List ℕ) → ending m w s y q left ≡ ending m w s x p (unset w p) → 0 < length left →
        (x' : s.State) (p' : Placement) (left' : List ℕ) (item : ℕ) → SetNone m w s y q left x' p' left' item →
        tries m w s (idle p) (attempts + 1 - (nth + 1)) (nth + 1) x' item ≡ tries m w s (idle p) (attempts + 1 - nth) nth x last
    attempt_left q y left same some x' p' left' item step = attempt_fails item x' (sym same ∙ item_ends y q left some x' p' left' item step)

    pub attempt_fills : (p' : Placement) (x' : s.State) → ending m w s x p (unset w p) ≡ complete p' x' →
        tries m w s (idle p) (attempts + 1 - nth) nth x last ≡ record { answer = Ok nth; board = idle p'; state = x' }
    unfolding ending
    attempt_fills p' x' e =
        let rest = attempts - nth in
        let one : attempts + 1 - nth ≡ suc rest = omega arith in
        ap (λ n. tries m w s (idle p) n nth x last) one ∙ ap (judged p rest nth) e

  -- no attempt is left
  pub all_fail : (p : Placement) (n nth : ℕ) (x : s.State) (last : ℕ) → n ≡ 0 → tries m w s (idle p) n nth x last ≡ record { answer = Err (NoCandidate last); board = idle p; state = x }
  all_fail p n nth x last none = ap (λ k. tries m w s (idle p) k nth x last) none
