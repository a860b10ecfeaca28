-- When a table takes the item in hand, and what a refused set leaves.
use Rattle.std.proofs.Common.{◌≡◌, ℕ, ◌<◌, true, false, length, Some, None, Ok, Err, Option, Result, sym, refl, ap, ◌∙◌}
use Rattle.std.proofs.lemmas.Bool.{lt-ltb, eqb-true, cond-true, cond-false}
use Rattle.model.specs.Placements.{Placement, item_at}
use Rattle.model.specs.declared.board_refusal.BoardRefusal.{BoardRefusal}
use Rattle.model.specs.Boards.{Board as Model, no_item, is_item, is_set, left_by}
use Rattle.sheet.specs.Changes.{set_refusal}
use Rattle.board.specs.declared.token.Token.{Token}
use Rattle.board.specs.declared.token.Refused.{Refused}
use Rattle.board.specs.Tokens.{refusal_of, set_answer}

pub in_hand : (item : ℕ) (hand : Option ℕ) → is_item item hand ≡ true → hand ≡ Some item
in_hand item None e = cc
in_hand item (Some other) e = ap Some (sym (eqb-true item other e))

pub takes : (p : Placement) (k i : ℕ) → k < length p → no_item (item_at p k) ≡ true → i < 256 → is_set p i ≡ false → set_refusal p k i ≡ None
unfolding is_set
takes p k i inside empty small unset =
    cond-true _ _ _ (lt-ltb _ _ inside) ∙ cond-true _ _ _ empty ∙ cond-true _ _ _ (lt-ltb _ _ small) ∙ cond-false _ _ _ unset

pub err_is : (r : Result Model BoardRefusal) (why : BoardRefusal) → Some why ≡ refusal_of r → r ≡ Err why
err_is (Ok b) why e = cc
err_is (Err other) why e = ap Err (cc)

-- a set that is refused leaves the board as it was
pub kept : (b : Model) (r : Result Model BoardRefusal) (why : BoardRefusal) → Some why ≡ refusal_of r → left_by b r ≡ b
kept b (Ok b') why e = cc
kept b (Err other) why e = refl

-- and gives its token back
pub given_back : (token : Token) (r : Result Model BoardRefusal) (e : Refused) → Err e ≡ set_answer token r → (r ≡ Err e.why) × (e.token ≡ token)
given_back token (Ok b) e x = cc
given_back token (Err why) e x = let same : e ≡ record { why = why; token = token } = cc in (ap (λ (y : Refused). Err y.why) (sym same), ap (λ (y : Refused). y.token) same)
