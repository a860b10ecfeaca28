-- A take up on a board is one on its table, and what it keeps of an item that is not set.
use Rattle.std.proofs.Common.{◌≡◌, ℕ, zero, suc, Bool, true, false, cond, not, ltb, [], ◌∷◌, length, set, Some, None, Ok, Err, Option, Result, refl, ap, ◌∙◌, length-set}
use Rattle.std.proofs.lemmas.Bool.{or_parts, or_from}
use Rattle.model.specs.declared.board_refusal.BoardRefusal.{BoardRefusal}
use Rattle.model.specs.declared.board_refusal.BoardRefusal.TheVariants as board
use Rattle.model.specs.Worlds.{World as Atlas}
use Rattle.model.specs.Placements.{Placement, item_at}
use Rattle.model.specs.Boards.{Board as Model, is_item, is_set, taken_up, cleared, after_take_up}
use Rattle.sheet.specs.declared.refusal.PlaceRefusal.{PlaceRefusal}
use Rattle.sheet.specs.declared.refusal.PlaceRefusal.TheVariants as place
use Rattle.sheet.specs.Refusals.{board_refusal}
use Rattle.sheet.specs.Changes.{found, taken_up as found_at}

-- the board's answer for the table's
abbrev pub as_board : Result ℕ PlaceRefusal → Result ℕ BoardRefusal
as_board (Ok item) = Ok item
as_board (Err why) = Err (board_refusal why)

same_answer : (inside : Bool) (o : Option ℕ) → cond (not inside) (Err board.NoPlace) (elim o as (λ x. Result ℕ BoardRefusal) [ Some item ↦ Ok item | None ↦ Err board.PlaceEmpty ]) ≡ as_board (cond inside (found o) (Err place.NoPlace))
same_answer true None = refl
same_answer true (Some i) = refl
same_answer false o = refl

module _ (w : Atlas) (b : Model) (k : ℕ) (fits : length b.placement ≡ length w.places) where
  pub taken_is : taken_up w b k ≡ as_board (found_at b.placement k)
  taken_is = rw (← fits) (same_answer (ltb k (length b.placement)) (item_at b.placement k))

  pub accepted : (item : ℕ) → found_at b.placement k ≡ Ok item → (taken_up w b k ≡ Ok item) × (after_take_up w b k ≡ cleared b k)
  accepted item e =
      let answer : taken_up w b k ≡ Ok item = taken_is ∙ ap as_board e in
      (answer, ap (λ r. elim r as (λ x. Model) [ Ok i ↦ cleared b k | Err why ↦ b ]) answer)

  pub refused : (why : PlaceRefusal) → found_at b.placement k ≡ Err why → (taken_up w b k ≡ Err (board_refusal why)) × (after_take_up w b k ≡ b)
  refused why e =
      let answer : taken_up w b k ≡ Err (board_refusal why) = taken_is ∙ ap as_board e in
      (answer, ap (λ r. elim r as (λ x. Model) [ Ok i ↦ cleared b k | Err y ↦ b ]) answer)

-- an item that is not set is not after a place is cleared
pub still_unset : (p : Placement) (k i : ℕ) → is_set p i ≡ false → is_set (set p k None) i ≡ false
unfolding is_set
still_unset [] k i e = e
still_unset (o ∷ p) zero i e = (or_parts (is_item i o) (is_set p i) e).1
still_unset (o ∷ p) (suc k) i e =
    let parts = or_parts (is_item i o) (is_set p i) e in
    or_from (is_item i o) (is_set (set p k None) i) parts.0 (still_unset p k i parts.1)

-- what is known of a table's placement after a take up that was refused or not
pub kept : (p q : Placement) (ok : Bool) (k : ℕ) → q ≡ cond ok (set p k None) p → (length q ≡ length p) × ((i : ℕ) → is_set p i ≡ false → is_set q i ≡ false)
kept p q true k e = (ap length e ∙ length-set p k None, λ i h. ap (λ x. is_set x i) e ∙ still_unset p k i h)
kept p q false k e = (ap length e, λ i h. ap (λ x. is_set x i) e ∙ h)
