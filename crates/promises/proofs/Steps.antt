-- Each call leaves a sound board.
use Rattle.std.proofs.Common.{◌≡◌, ℕ, zero, suc, ◌<◌, Bool, true, false, not, ◌||◌, T, eqb, ltb, List, [], ◌∷◌, map, length, get_or, set, Some, None, Ok, Err, Option, Result, sym, refl, ap, ◌∙◌, subst, mod-lt, arith, eqb→eq, ltb→lt, T_not}
use lib.Dec.{eqb_refl, not_T}
use lib.ListN.{length-map}
use Rattle.std.specs.List.{remove}
use Rattle.std.proofs.lemmas.List.Edits.{length-remove}
use Rattle.inventory.specs.Meaning.{Meaning, Lawful}
use Rattle.draw.specs.Source.{Source, Fair}
use Rattle.model.specs.declared.board_refusal.BoardRefusal.{BoardRefusal}
use Rattle.model.specs.declared.board_refusal.BoardRefusal.TheVariants.{PlaceEmpty}
use Rattle.model.specs.Marks.{at, In, work_marks}
use Rattle.model.specs.Worlds.{World}
use Rattle.model.specs.Placements.{Placement, item_at}
use Rattle.model.specs.Boards.{Board, no_item, is_item, is_set, unset, loose, new_board, gathered_with, lifted, set_at, put_back, taken_up, cleared, left_by}
use Rattle.model.specs.Fills.{Outcome, Filling, candidates, attempt, tries, filling}
use Rattle.model.specs.Fills.Outcome.{complete, stuck}
use Rattle.model.specs.Calls.{Call, by_answers, answered, step, after}
use Rattle.model.specs.Calls.Call.{lift, set as set_down, back, take_up, fill, sheet}
use Rattle.model.proofs.Sets.{and_both, and_from, cond_ways}
use Rattle.model.proofs.Items.{Mem}
use Rattle.promises.specs.Promises.{Supported, Sound, BoardsStaySupported}
use Rattle.promises.proofs.Listed.{unset_is, at_mem, kept_mem, mem_kept, distinct_kept, removed_mem, removed_distinct, removed_apart, removed_keeps}
use Rattle.promises.proofs.Held.{Held, not_both, some_same, held_from, supported_from, set_held, unset_held, still_unset}

pub not_not : (b : Bool) → (T (not b) → ⊥) → T b
not_not true f = tt
not_not false f = f tt

pub not_zero : (n : ℕ) → (T (eqb n 0) → ⊥) → 0 < n
not_zero zero f = absurd (f tt)
not_zero (suc n) f = omega arith

pub none_if : (o : Option ℕ) → T (no_item o) → o ≡ None
none_if None t = refl
none_if (Some i) t = absurd t

item_if : (x : ℕ) (o : Option ℕ) → T (is_item x o) → o ≡ Some x
item_if x None t = absurd t
item_if x (Some i) t = ap Some (sym (eqb→eq x i t))

is_itself : (x : ℕ) (o : Option ℕ) → o ≡ Some x → T (is_item x o)
is_itself x o e = subst (λ y. T (is_item x y)) (sym e) (eqb_refl x)

answered_below : (answers : List ℕ → ℕ) (asked : List ℕ) (n : ℕ) → 0 < n → answered answers asked n < n
answered_below answers asked zero h = let z : ⊥ = omega arith in absurd z
answered_below answers asked (suc n) h = mod-lt (answers (suc n ∷ asked)) h

pub answers_fair : (answers : List ℕ → ℕ) → Fair (by_answers answers)
answers_fair answers = record { below = answered_below answers; none_drawn = λ x. refl; none_after = λ x. refl }

pub empty_at : {A : Type 0} (xs : List A) (k : ℕ) → item_at (map (λ q. None) xs) k ≡ None
empty_at [] k = refl
empty_at (x ∷ xs) zero = refl
empty_at (x ∷ xs) (suc k) = empty_at xs k

-- what is made of an attempt, by how it ends
abbrev pub either_end : {S A : Type 0} → (Placement → S → A) → (ℕ → S → A) → Outcome S → A
either_end f g o = elim o [ complete p x ↦ f p x | stuck item x ↦ g item x ]

-- what holds of both ends of an attempt, given what holds of the attempt, holds of what is made of it
pub outcome_ways : {S A : Type 0} (P : A → Type 0) (Q : Outcome S → Type 0) (o : Outcome S) (f : Placement → S → A) (g : ℕ → S → A)
    → Q o → ((p : Placement) (x : S) → Q (complete p x) → P (f p x)) → ((item : ℕ) (x : S) → Q (stuck item x) → P (g item x))
    → P (either_end f g o)
outcome_ways P Q (complete p x) f g q h k = h p x q
outcome_ways P Q (stuck item x) f g q h k = k item x q

module _ (m : Meaning) (l : Lawful m) (w : World) where
  pub new_held : Held m w (new_board w).placement (unset w (new_board w).placement)
  new_held = record {
    placed = record {
      lies = record { fits = length-map w.places _; known = λ k i e. not_both _ i (empty_at w.places k) e };
      once = λ j k i e f. not_both _ i (empty_at w.places j) e;
    };
    list = unset_is w (new_board w).placement;
    gathers = λ k i e. not_both _ i (empty_at w.places k) e;
  }

  -- fills

  pub candidate_is : (p : Placement) (left : List ℕ) (k : ℕ) → Mem k (candidates m w p left) → (item_at p k ≡ None) × In (gathered_with m w p left) k
  unfolding candidates
  candidate_is p left k t =
      let r = kept_mem _ 0 (length w.places) k t in
      let b = and_both (no_item (item_at p k)) _ r.passes in
      (none_if (item_at p k) b.0, b.1)

  pub drawn_held : (p : Placement) (items : List ℕ) → Held m w p items → (j : ℕ) → j < length items → (k : ℕ) → Mem k (candidates m w p (remove items j))
      → Held m w (set p k (Some (get_or items j 0))) (remove items j)
  drawn_held p items held j h k t =
      let c = candidate_is p (remove items j) k t in
      set_held m l w p items held (get_or items j 0) (at_mem items j h) (remove items j) (removed_distinct items j held.list.apart)
      (λ z u. (removed_mem items j z u, λ e. removed_apart items j h held.list.apart (subst (λ y. Mem y (remove items j)) e u)))
      (λ z u n. removed_keeps items j z u n)
      k c.0 c.1

  empty_handed : (p : Placement) → Supported m w p → Sound m w (record { placement = p; hand = None })
  empty_handed p s = record { supported = s; in_hand = λ x e. not_both None x refl e }

  module _ (s : Source) (fair : Fair s) where
    abbrev pub EndsWell : Outcome s.State → Type 0
    EndsWell (complete p x) = Held m w p []
    EndsWell (stuck item x) = Unit {0}

    pub attempt_well : (n : ℕ) (x : s.State) (p : Placement) (items : List ℕ) → length items ≡ n → Held m w p items → EndsWell (attempt m w s n x p items)
    attempt_well zero x p [] e held = held
    attempt_well zero x p (i ∷ items) e held = let z : ⊥ = omega arith in absurd z
    attempt_well (suc n) x p items e held =
        let size : 0 < length items = omega arith in
        let j : ℕ = s.drawn x (length items) in
        let x' : s.State = s.after x (length items) in
        let inside : j < length items = fair.below x (length items) size in
        let left : List ℕ = remove items j in
        let found : List ℕ = candidates m w p left in
        cond_ways EndsWell (eqb (length found) 0) _ _ (λ t. tt) (λ some.
        let k : ℕ = s.drawn x' (length found) in
        let there : k < length found = fair.below x' (length found) (not_zero (length found) some) in
        attempt_well n _ _ left (let r = length-remove items j inside in omega arith) (drawn_held p items held j inside _ (at_mem found k there)))

    abbrev LeavesSound : Filling s.State → Type 0
    LeavesSound f = Sound m w f.board

    tries_sound : (b : Board) → Sound m w b → (more nth : ℕ) (x : s.State) (last : ℕ) → LeavesSound (tries m w s b more nth x last)
    tries_sound b h zero nth x last = h
    tries_sound b h (suc more) nth x last =
        let items : List ℕ = unset w b.placement in
        outcome_ways LeavesSound EndsWell (attempt m w s (length items) x b.placement items) _ _
        (attempt_well (length items) x b.placement items refl (held_from m l w b.placement h.supported))
        (λ p x' held. empty_handed p (supported_from m l w p [] held))
        (λ item x' u. tries_sound b h more (suc nth) x' item)

    pub filling_sound : (b : Board) → Sound m w b → (x : s.State) (attempts lent : ℕ) → LeavesSound (filling m w s b x attempts lent)
    filling_sound b h x attempts lent =
        cond_ways LeavesSound (ltb lent work_marks) _ _ (λ t. h) (λ n.
        cond_ways LeavesSound (eqb attempts 0 || ltb 64 attempts) _ _ (λ t. h) (λ n₂.
        cond_ways LeavesSound (not (no_item b.hand)) _ _ (λ t. h) (λ n₃.
        tries_sound b h attempts 1 x 0)))

  -- the other calls

  module _ (b : Board) (h : Sound m w b) where
    abbrev Leaves : Result Board BoardRefusal → Type 0
    Leaves r = Sound m w (left_by b r)

    lift_sound : (x : ℕ) → Leaves (lifted w b x)
    lift_sound x =
        cond_ways Leaves (not (ltb x (length w.pool))) _ _ (λ t. h) (λ known.
        cond_ways Leaves (not (no_item b.hand)) _ _ (λ t. h) (λ n.
        cond_ways Leaves (is_set b.placement x) _ _ (λ t. h) (λ n₂.
        record {
          supported = h.supported;
          in_hand = λ y e.
              let q : x ≡ y = some_same x y e in (
                subst (λ z. z < length w.pool) q (ltb→lt x (length w.pool) (not_not (ltb x (length w.pool)) known)),
                subst (λ z. T (is_set b.placement z) → ⊥) q n₂,
              );
        })))

    back_sound : (x : ℕ) → Leaves (put_back b x)
    back_sound x =
        cond_ways Leaves (not (is_item x b.hand)) _ _ (λ t. h) (λ n. empty_handed b.placement h.supported)

    abbrev Clears : ℕ → Result ℕ BoardRefusal → Type 0
    Clears k r = Sound m w (elim r [ Ok item ↦ cleared b k | Err e ↦ b ])

    take_up_sound : (k : ℕ) → Clears k (taken_up w b k)
    take_up_sound k =
        cond_ways (Clears k) (not (ltb k (length w.places))) _ _ (λ t. h) (λ n. go (item_at b.placement k) refl)
      where
        go : (o : Option ℕ) → item_at b.placement k ≡ o → Clears k (elim o [ Some item ↦ Ok item | None ↦ Err PlaceEmpty ])
        go None e = h
        go (Some x) e =
            let p : Placement = b.placement in
            let held = held_from m l w p h.supported in
            record {
              supported = supported_from m l w (set p k None) (x ∷ unset w p) (unset_held m l w p (unset w p) held k x e);
              in_hand = λ y f. ((h.in_hand y f).0, still_unset m l w p (unset w p) held k x e y (h.in_hand y f).1);
            }

    -- the item in hand goes to a place that is gathered without it
    set_sound : (x k lent : ℕ) → Leaves (set_at m w b x k lent)
    unfolding loose unset
    set_sound x k lent =
        cond_ways Leaves (ltb lent work_marks) _ _ (λ t. h) (λ n₁.
        cond_ways Leaves (not (is_item x b.hand)) _ _ (λ t. h) (λ n₂.
        cond_ways Leaves (not (ltb k (length w.places))) _ _ (λ t. h) (λ n₃.
        cond_ways Leaves (not (no_item (item_at b.placement k))) _ _ (λ t. h) (λ n₄.
        cond_ways Leaves (not (at (gathered_with m w b.placement (loose w b)) k)) _ _ (λ t. h) (λ n₅.
        let p : Placement = b.placement in
        let hand : b.hand ≡ Some x = item_if x b.hand (not_not (is_item x b.hand) n₂) in
        let u = unset_is w p in
        empty_handed (set p k (Some x)) (supported_from m l w (set p k (Some x)) (loose w b)
        (set_held m l w p (unset w p) (held_from m l w p h.supported)
        x (u.all x (h.in_hand x hand).0 (h.in_hand x hand).1)
        (loose w b) (distinct_kept _ 0 (length w.pool))
        (λ z t.
        let r = kept_mem _ 0 (length w.pool) z t in
        let c = and_both (not (is_set p z)) (not (is_item z b.hand)) r.passes in (
          mem_kept _ 0 (length w.pool) z r.from r.before c.0,
          λ e. T_not (is_item z b.hand) c.1 (is_itself z b.hand (hand ∙ ap Some (sym e))),
        ))
        (λ z t e.
        let r = kept_mem _ 0 (length w.pool) z t in
        mem_kept _ 0 (length w.pool) z r.from r.before
        (and_from (not (is_set p z)) (not (is_item z b.hand)) r.passes
        (not_T (is_item z b.hand) (λ g. e (some_same z x (sym (item_if z b.hand g) ∙ hand))))))
        k (none_if (item_at p k) (not_not (no_item (item_at p k)) n₄)) (not_not _ n₅))))))))

  step_sound : (b : Board) → Sound m w b → (c : Call) → Sound m w (step m w b c).1
  step_sound b h (lift item) = lift_sound b h item
  step_sound b h (set_down item place lent) = set_sound b h item place lent
  step_sound b h (back item) = back_sound b h item
  step_sound b h (take_up place) = take_up_sound b h place
  step_sound b h (fill answers attempts lent) = filling_sound (by_answers answers) (answers_fair answers) b h [] attempts lent
  step_sound b h sheet = h

  pub after_sound : (b : Board) → Sound m w b → (calls : List Call) → Sound m w (after m w b calls)
  after_sound b h [] = h
  after_sound b h (c ∷ calls) = after_sound (step m w b c).1 (step_sound b h c) calls

  new_sound : Sound m w (new_board w)
  new_sound = empty_handed (new_board w).placement (supported_from m l w _ _ new_held)

pub boards_stay_supported : (m : Meaning) → Lawful m → BoardsStaySupported m
boards_stay_supported m l w calls = after_sound m l w (new_board w) (new_sound m l w) calls
