-- A source in one of its states is known by its answers to each row of sizes.
use Rattle.std.proofs.Common.{◌≡◌, ℕ, zero, suc, Bool, true, false, cond, not, ◌||◌, eqb, ltb, List, [], ◌∷◌, length, get_or, set, Some, None, Ok, sym, refl, ap, ◌∙◌, suc-le-suc, zero-le, mod-eq_of_lt}
use Rattle.std.specs.List.{remove}
use Rattle.inventory.specs.Meaning.{Meaning}
use Rattle.draw.specs.Source.{Source, Fair}
use Rattle.model.specs.Marks.{work_marks}
use Rattle.model.specs.Worlds.{World}
use Rattle.model.specs.Placements.{Placement}
use Rattle.model.specs.Boards.{Board, no_item, unset}
use Rattle.model.specs.Fills.{Outcome, Filling, candidates, attempt, tries, filling}
use Rattle.model.specs.Fills.Outcome.{complete, stuck}
use Rattle.model.specs.Calls.{answered, asking, by_answers}
use Rattle.promises.specs.Promises.{state_after, SourcesAreTheirAnswers}
use Rattle.promises.proofs.Steps.{either_end}

module _ (s : Source) (fair : Fair s) (start : s.State) where
  abbrev state : List ℕ → s.State
  state asked = state_after s start asked

  -- the answer to the newest of the sizes asked
  answers : List ℕ → ℕ
  answers [] = 0
  answers (n ∷ asked) = s.drawn (state asked) n

  same_drawn : (asked : List ℕ) (n : ℕ) → s.drawn (state asked) n ≡ answered answers asked n
  unfolding answers
  same_drawn asked zero = fair.none_drawn (state asked)
  same_drawn asked (suc n) = sym (mod-eq_of_lt (fair.below (state asked) (suc n) (suc-le-suc zero-le)))

  same_after : (asked : List ℕ) (n : ℕ) → s.after (state asked) n ≡ state (asking asked n)
  same_after asked zero = fair.none_after (state asked)
  same_after asked (suc n) = refl

  module _ (m : Meaning) (w : World) where
    abbrev ends : Outcome (List ℕ) → Outcome s.State
    ends (complete p asked) = complete p (state asked)
    ends (stuck item asked) = stuck item (state asked)

    cond_ends : (b : Bool) (o o' : Outcome (List ℕ)) (q q' : Outcome s.State) → q ≡ ends o → q' ≡ ends o' → cond b q q' ≡ ends (cond b o o')
    cond_ends true o o' q q' e f = e
    cond_ends false o o' q q' e f = f

    attempt_same : (n : ℕ) (asked : List ℕ) (p : Placement) (items : List ℕ)
        → attempt m w s n (state asked) p items ≡ ends (attempt m w (by_answers answers) n asked p items)
    attempt_same zero asked p items = refl
    attempt_same (suc n) asked p items =
        let size : ℕ = length items in
        let j : ℕ = answered answers asked size in
        let asked' : List ℕ = asking asked size in
        let found : List ℕ = candidates m w p (remove items j) in
        let k : ℕ = answered answers asked' (length found) in
        let on : ℕ → s.State → Outcome s.State =
        λ i x. (let cands = candidates m w p (remove items i) in
        cond (eqb (length cands) 0) (stuck (get_or items i 0) x)
        (attempt m w s n (s.after x (length cands)) (set p (get_or cands (s.drawn x (length cands)) 0) (Some (get_or items i 0))) (remove items i))) in
        ap (λ i. on i (s.after (state asked) size)) (same_drawn asked size)
        ∙ ap (λ x. on j x) (same_after asked size)
        ∙ cond_ends (eqb (length found) 0) _ _ _ _ refl
        (ap (λ i. attempt m w s n (s.after (state asked') (length found)) (set p (get_or found i 0) (Some (get_or items j 0))) (remove items j)) (same_drawn asked' (length found))
        ∙ ap (λ x. attempt m w s n x (set p (get_or found k 0) (Some (get_or items j 0))) (remove items j)) (same_after asked' (length found))
        ∙ attempt_same n (asking asked' (length found)) _ (remove items j))

    abbrev shown : Filling (List ℕ) → Filling s.State
    shown f = record { answer = f.answer; board = f.board; state = state f.state }

    either_same : (f : Placement → s.State → Filling s.State) (g : ℕ → s.State → Filling s.State) (f' : Placement → List ℕ → Filling (List ℕ)) (g' : ℕ → List ℕ → Filling (List ℕ))
        → ((p : Placement) (asked : List ℕ) → f p (state asked) ≡ shown (f' p asked)) → ((item : ℕ) (asked : List ℕ) → g item (state asked) ≡ shown (g' item asked))
        → (o : Outcome (List ℕ)) → either_end f g (ends o) ≡ shown (either_end f' g' o)
    either_same f g f' g' h k (complete p asked) = h p asked
    either_same f g f' g' h k (stuck item asked) = k item asked

    tries_same : (b : Board) (more nth : ℕ) (asked : List ℕ) (last : ℕ) → tries m w s b more nth (state asked) last ≡ shown (tries m w (by_answers answers) b more nth asked last)
    tries_same b zero nth asked last = refl
    tries_same b (suc more) nth asked last =
        let items : List ℕ = unset w b.placement in
        let f : Placement → s.State → Filling s.State = λ p x. record { answer = Ok nth; board = record { placement = p; hand = None }; state = x } in
        let f' : Placement → List ℕ → Filling (List ℕ) = λ p x. record { answer = Ok nth; board = record { placement = p; hand = None }; state = x } in
        let g : ℕ → s.State → Filling s.State = λ item x. tries m w s b more (suc nth) x item in
        let g' : ℕ → List ℕ → Filling (List ℕ) = λ item x. tries m w (by_answers answers) b more (suc nth) x item in
        ap (either_end f g) (attempt_same (length items) asked b.placement items)
        ∙ either_same f g f' g' (λ p a. refl) (λ item a. tries_same b more (suc nth) a item) (attempt m w (by_answers answers) (length items) asked b.placement items)

    cond_shown : (c : Bool) (x y : Filling (List ℕ)) (x' y' : Filling s.State) → x' ≡ shown x → y' ≡ shown y → cond c x' y' ≡ shown (cond c x y)
    cond_shown true x y x' y' e f = e
    cond_shown false x y x' y' e f = f

    filling_same : (b : Board) (attempts lent : ℕ) → filling m w s b start attempts lent ≡ shown (filling m w (by_answers answers) b [] attempts lent)
    filling_same b attempts lent =
        cond_shown (ltb lent work_marks) _ _ _ _ refl
        (cond_shown (eqb attempts 0 || ltb 64 attempts) _ _ _ _ refl
        (cond_shown (not (no_item b.hand)) _ _ _ _ refl
        (tries_same b attempts 1 [] 0)))

pub sources_are_their_answers : (m : Meaning) (s : Source) → Fair s → SourcesAreTheirAnswers m s
sources_are_their_answers m s fair x = (
  answers s fair x,
  record {
    same_answer = λ w b attempts lent. ap (λ f. f.answer) (filling_same s fair x m w b attempts lent);
    same_board = λ w b attempts lent. ap (λ f. f.board) (filling_same s fair x m w b attempts lent);
    same_state = λ w b attempts lent. ap (λ f. f.state) (filling_same s fair x m w b attempts lent);
  },
)
