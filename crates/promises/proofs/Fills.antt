-- Accepted fills leave whole placements that keep what was set, and each such placement under some tape: whichever item is drawn, its place is among the candidates.
use Rattle.std.proofs.Common.{◌≡◌, ℕ, zero, suc, ◌+◌, ◌<◌, ◌≤◌, Bool, cond, not, ◌||◌, T, eqb, ltb, ◌⊎◌, ◌↔◌, List, [], ◌∷◌, ◌++◌, length, get_or, set, Some, None, Ok, Err, filter, Option, Result, sym, refl, ap, ◌∙◌, subst, inl, inr, zero-le, mod-eq_of_lt, arith}
use Rattle.std.specs.List.{remove, range_with_len, AllByRecursion}
use Rattle.std.proofs.lemmas.List.{get_or-set_same, get_or-set_other}
use Rattle.std.proofs.lemmas.Bool.{cases_eq, cond-false, ne_eqb}
use Rattle.inventory.specs.Meaning.{Meaning, Lawful}
use Rattle.draw.specs.Source.{Source, Fair}
use Rattle.draw.specs.Tapes.{tape, tape_fair}
use Rattle.model.specs.declared.board_refusal.BoardRefusal.{BoardRefusal}
use Rattle.model.specs.Marks.{In, Sub, any, first, work_marks}
use Rattle.model.specs.Worlds.{World, stocked, with_items}
use Rattle.model.specs.Proper.{proper}
use Rattle.model.specs.Placements.{Placement, item_at, lying, gains, round, gathered, Whole}
use Rattle.model.specs.Laws.{Extends}
use Rattle.model.specs.Boards.{Board, no_item, is_set, unset, new_board, gathered_with}
use Rattle.model.specs.Fills.{Outcome, Filling, candidates, attempt, tries, filling}
use Rattle.model.specs.Fills.Outcome.{complete, stuck}
use Rattle.model.specs.Calls.{Call, after}
use Rattle.model.proofs.Sets.{and_from, cond_ways, yes_or_no, none_sub, First, first_some, first_finds}
use Rattle.model.proofs.Grows.{items_below, opens_grow, gathered_settles}
use Rattle.model.proofs.Items.{Mem, mem_test, test_mem, lying_mem, mem_lying, distinct_lying, worth_below}
use Rattle.model.proofs.Limits.{proper_facts}
use Rattle.promises.specs.Promises.{Supported, FilledFrom, FillsReachEachWhole, FillsAreWhole}
use Rattle.promises.proofs.Listed.{mem_left, mem_right, mem_at, at_mem, mem_kept, set_where, there_set, with_items_append}
use Rattle.promises.proofs.Held.{Held, not_both, some_same, gathered_place, held_from}
use Rattle.promises.proofs.Steps.{not_zero, either_end, outcome_ways, EndsWell, attempt_well, candidate_is, drawn_held, empty_at, boards_stay_supported}

-- an accepted fill leaves a whole placement

refused_accepted : {A X : Type 0} (e : BoardRefusal) (x : X) → ◌≡◌ {A = Result X BoardRefusal} (Err e) (Ok x) → A
refused_accepted e x q = let z : ◌≡◌ {A = ℕ} 0 1 = cc in let y : ⊥ = omega arith in absurd y

module _ (m : Meaning) (l : Lawful m) (w : World) where
  whole_from : (p : Placement) → Held m w p [] → Whole m w p
  whole_from p h = record {
    placed = h.placed;
    every = λ i known. elim (yes_or_no (is_set p i)) [
      | inl t ↦ (let r = set_where p i t in (r.0, r.1, h.gathers r.0 i r.1))
      | inr n ↦ absurd (h.list.all i known n)
    ];
  }

  module _ (s : Source) (fair : Fair s) where
    abbrev WholeIfFilled : Filling s.State → Type 0
    WholeIfFilled f = (nth : ℕ) → f.answer ≡ Ok nth → Whole m w f.board.placement

    tries_filled : (b : Board) → Supported m w b.placement → (more nth : ℕ) (x : s.State) (last : ℕ) → WholeIfFilled (tries m w s b more nth x last)
    tries_filled b h zero nth x last = λ n e. refused_accepted _ n e
    tries_filled b h (suc more) nth x last =
        let items : List ℕ = unset w b.placement in
        outcome_ways WholeIfFilled (EndsWell m l w s fair) (attempt m w s (length items) x b.placement items) _ _
        (attempt_well m l w s fair (length items) x b.placement items refl (held_from m l w b.placement h))
        (λ p x' held n e. whole_from p held)
        (λ item x' u. tries_filled b h more (suc nth) x' item)

    filling_whole : (b : Board) → Supported m w b.placement → (x : s.State) (attempts lent : ℕ) → WholeIfFilled (filling m w s b x attempts lent)
    filling_whole b h x attempts lent =
        cond_ways WholeIfFilled (ltb lent work_marks) _ _ (λ t n e. refused_accepted _ n e) (λ n₁.
        cond_ways WholeIfFilled (eqb attempts 0 || ltb 64 attempts) _ _ (λ t n e. refused_accepted _ n e) (λ n₂.
        cond_ways WholeIfFilled (not (no_item b.hand)) _ _ (λ t n e. refused_accepted _ n e) (λ n₃.
        tries_filled b h attempts 1 x 0)))

-- what is set stays where it is

set_extends : (p : Placement) (k x : ℕ) → item_at p k ≡ None → Extends p (set p k (Some x))
set_extends p k x empty j i e = get_or-set_other p k j (Some x) None (λ q. not_both (item_at p k) i empty (subst (λ y. item_at p y ≡ Some i) q e)) ∙ e

module _ (m : Meaning) (l : Lawful m) (w : World) (s : Source) (fair : Fair s) (start : Placement) where
  abbrev Keeps : Outcome s.State → Type 0
  Keeps (complete p x) = Extends start p
  Keeps (stuck item x) = Unit {0}

  attempt_keeps : (n : ℕ) (x : s.State) (p : Placement) (items : List ℕ) → Extends start p → Keeps (attempt m w s n x p items)
  attempt_keeps zero x p items h = h
  attempt_keeps (suc n) x p items h =
      let j : ℕ = s.drawn x (length items) in
      let x' : s.State = s.after x (length items) in
      let found : List ℕ = candidates m w p (remove items j) in
      cond_ways Keeps (eqb (length found) 0) _ _ (λ t. tt) (λ some.
      let k : ℕ = s.drawn x' (length found) in
      let there : k < length found = fair.below x' (length found) (not_zero (length found) some) in
      let c = candidate_is m l w p (remove items j) (get_or found k 0) (at_mem found k there) in
      attempt_keeps n _ _ (remove items j) (λ i y e. set_extends p (get_or found k 0) (get_or items j 0) c.0 i y (h i y e)))

  abbrev KeepsIfFilled : Filling s.State → Type 0
  KeepsIfFilled f = (nth : ℕ) → f.answer ≡ Ok nth → Extends start f.board.placement

  tries_keep : (b : Board) → b.placement ≡ start → (more nth : ℕ) (x : s.State) (last : ℕ) → KeepsIfFilled (tries m w s b more nth x last)
  tries_keep b same zero nth x last = λ n e. refused_accepted _ n e
  tries_keep b same (suc more) nth x last =
      let items : List ℕ = unset w b.placement in
      outcome_ways KeepsIfFilled Keeps (attempt m w s (length items) x b.placement items) _ _
      (attempt_keeps (length items) x b.placement items (subst (λ p. Extends start p) (sym same) (λ k i e. e)))
      (λ p x' kept n e. kept)
      (λ item x' u. tries_keep b same more (suc nth) x' item)

  filling_keeps : (b : Board) → b.placement ≡ start → (x : s.State) (attempts lent : ℕ) → KeepsIfFilled (filling m w s b x attempts lent)
  filling_keeps b same x attempts lent =
      cond_ways KeepsIfFilled (ltb lent work_marks) _ _ (λ t n e. refused_accepted _ n e) (λ n₁.
      cond_ways KeepsIfFilled (eqb attempts 0 || ltb 64 attempts) _ _ (λ t n e. refused_accepted _ n e) (λ n₂.
      cond_ways KeepsIfFilled (not (no_item b.hand)) _ _ (λ t n e. refused_accepted _ n e) (λ n₃.
      tries_keep b same attempts 1 x 0)))

pub fills_are_whole : (m : Meaning) → Lawful m → (s : Source) → Fair s → FillsAreWhole m s
fills_are_whole m l s fair w calls x attempts lent nth e =
    let b : Board = after m w (new_board w) calls in (
      filling_whole m l w s fair b (boards_stay_supported m l w calls).supported x attempts lent nth e,
      filling_keeps m l w s fair b.placement b refl x attempts lent nth e,
    )

-- tools

length_kept : (f : ℕ → Bool) (a n : ℕ) → length (filter f (range_with_len a n)) ≤ n
length_kept f a zero = zero-le
length_kept f a (suc n) =
    let h = length_kept f (a + 1) n in
    cond_ways (λ l. length l ≤ suc n) (f a) (a ∷ filter f (range_with_len (a + 1) n)) (filter f (range_with_len (a + 1) n)) (λ t. omega arith) (λ t. omega arith)

same_placement : (p q : Placement) → length p ≡ length q → ((k : ℕ) → item_at p k ≡ item_at q k) → p ≡ q
same_placement [] [] e h = refl
same_placement [] (b ∷ q) e h = let z : ⊥ = omega arith in absurd z
same_placement (a ∷ p) [] e h = let z : ⊥ = omega arith in absurd z
same_placement (a ∷ p) (b ∷ q) e h =
    let heads : a ≡ b = h 0 in
    let tails : p ≡ q = same_placement p q (omega arith) (λ k. h (suc k)) in
    cc

set_came : (p : Placement) (k x : ℕ) → k < length p → (j i : ℕ) → item_at (set p k (Some x)) j ≡ Some i → ((j ≡ k) × (i ≡ x)) ⊎ (item_at p j ≡ Some i)
set_came p k x h j i e = elim (cases_eq j k) [
  | inl q ↦ inl (q, some_same i x (sym e ∙ subst (λ y. item_at (set p k (Some x)) y ≡ Some x) (sym q) (get_or-set_same p k (Some x) None h)))
  | inr n ↦ inr (sym (get_or-set_other p k j (Some x) None n) ∙ e)
]

or_zero : Option ℕ → ℕ
or_zero None = 0
or_zero (Some n) = n

module _ (m : Meaning) (l : Lawful m) (w : World) where
  candidate_from : (p : Placement) (left : List ℕ) (k : ℕ) → item_at p k ≡ None → In (gathered_with m w p left) k → Mem k (candidates m w p left)
  unfolding candidates
  candidate_from p left k e t =
      mem_kept _ 0 (length w.places) k zero-le (let q = gathered_place m l w p _ k t in omega arith)
      (and_from (no_item (item_at p k)) _ (subst (λ o. T (no_item o)) (sym e) tt) t)

  few_candidates : (p : Placement) (left : List ℕ) → length (candidates m w p left) ≤ length w.places
  unfolding candidates
  few_candidates p left = length_kept _ 0 (length w.places)

  -- an item and then one of its candidates are drawn from a tape
  tape_step : (n j c : ℕ) (numbers : List ℕ) (p : Placement) (items : List ℕ) → j < length items → c < length (candidates m w p (remove items j))
      → attempt m w tape (suc n) (j ∷ c ∷ numbers) p items ≡ attempt m w tape n numbers (set p (get_or (candidates m w p (remove items j)) c 0) (Some (get_or items j 0))) (remove items j)
  tape_step n j c numbers p items h k =
      let found : List ℕ = candidates m w p (remove items j) in
      let on : ℕ → List ℕ → Outcome (List ℕ) =
      λ i x. (let cands = candidates m w p (remove items i) in
      cond (eqb (length cands) 0) (stuck (get_or items i 0) x)
      (attempt m w tape n (tape.after x (length cands)) (set p (get_or cands (tape.drawn x (length cands)) 0) (Some (get_or items i 0))) (remove items i))) in
      ap (λ i. on i (tape.after (j ∷ c ∷ numbers) (length items))) (front j (c ∷ numbers) (length items) h)
      ∙ ap (on j) (rest j (c ∷ numbers) (length items) h)
      ∙ cond-false {A = Outcome (List ℕ)} (eqb (length found) 0) _ _ (ne_eqb (length found) 0 (λ e. omega arith))
      ∙ ap (λ i. attempt m w tape n (tape.after (c ∷ numbers) (length found)) (set p (get_or found i 0) (Some (get_or items j 0))) (remove items j)) (front c numbers (length found) k)
      ∙ ap (λ x. attempt m w tape n x (set p (get_or found c 0) (Some (get_or items j 0))) (remove items j)) (rest c numbers (length found) k)
    where
      front : (c : ℕ) (numbers : List ℕ) (n : ℕ) → c < n → tape.drawn (c ∷ numbers) n ≡ c
      front c numbers n h = cond-false {A = ℕ} (eqb n 0) _ _ (ne_eqb n 0 (λ e. omega arith)) ∙ mod-eq_of_lt h

      rest : (c : ℕ) (numbers : List ℕ) (n : ℕ) → c < n → tape.after (c ∷ numbers) n ≡ numbers
      rest c numbers n h = cond-false {A = List ℕ} (eqb n 0) _ _ (ne_eqb n 0 (λ e. omega arith))

  module _ (goal : Placement) (whole : Whole m w goal) where
    abbrev in_round : ℕ → List Bool
    in_round r = round m w goal (stocked m w) r

    -- the first round that has the item's place
    rank : ℕ → ℕ
    rank x = or_zero (first (suc (length w.places)) 0 (λ r. any (eqb x) (lying goal (in_round r))))

    rank_first : (x : ℕ) → x < length w.pool → First (suc (length w.places)) 0 (λ r. any (eqb x) (lying goal (in_round r))) (rank x)
    unfolding rank or_zero gathered
    rank_first x h =
        let e = whole.every x h in
        let f = first_finds (suc (length w.places)) 0 (λ r. any (eqb x) (lying goal (in_round r))) (length w.places) zero-le (omega arith)
        (mem_test x _ (lying_mem goal (in_round (length w.places)) e.0 x e.1 e.2)) in
        subst (λ r. First (suc (length w.places)) 0 (λ r. any (eqb x) (lying goal (in_round r))) r) (sym (ap or_zero f.1)) (first_some (suc (length w.places)) 0 _ f.0 f.1)

    -- the part that is set is of the goal
    record Towards (q : Placement) (items : List ℕ) : Type 0 where
      held : Held m w q items
      part : Extends q goal

    reached_goal : (q : Placement) → Towards q [] → q ≡ goal
    reached_goal q t = same_placement q goal (t.held.placed.lies.fits ∙ sym whole.placed.lies.fits) (λ k. at_place k (item_at q k) refl)
      where
        empty_too : (k : ℕ) → item_at q k ≡ None → (o : Option ℕ) → item_at goal k ≡ o → o ≡ None
        empty_too k e None f = refl
        empty_too k e (Some x) f = elim (yes_or_no (is_set q x)) [
          | inl s ↦ (let r = set_where q x s in
              let same : r.0 ≡ k = whole.placed.once r.0 k x (t.part r.0 x r.1) f in
              not_both (item_at q k) x e (subst (λ y. item_at q y ≡ Some x) same r.1))
          | inr n ↦ absurd (t.held.list.all x (whole.placed.lies.known k x f) n)
        ]

        at_place : (k : ℕ) (o : Option ℕ) → item_at q k ≡ o → item_at q k ≡ item_at goal k
        at_place k None e = e ∙ sym (empty_too k e (item_at goal k) refl)
        at_place k (Some x) e = e ∙ sym (t.part k x e)

    -- The next item of the list: its place in the goal is gathered without it, since what lies in earlier rounds is set there or still in the list.
    module _ (q : Placement) (x : ℕ) (left : List ℕ) (t : Towards q (x ∷ left)) where
      abbrev G : List Bool
      G = gathered_with m w q left

      climb : (r : ℕ) → r < rank x → Sub (in_round r) G → Sub (in_round (suc r)) G
      unfolding round gains
      climb r low below =
          let v : m.Value = with_items m w (stocked m w) left in
          subst (λ s. Sub (in_round (suc r)) s) (gathered_settles m l w q v)
          (opens_grow m l w _ _ (rw (with_items_append m l w (stocked m w) left (lying q G))
          (items_below m l w (stocked m w) (stocked m w) (lying goal (in_round r)) (left ++ lying q G) (l.reflexive (stocked m w))
          (worth_below m l w (lying goal (in_round r)) (left ++ lying q G) (distinct_lying goal (in_round r) whole.placed.once) held_too))))
        where
          held_too : (y : ℕ) → Mem y (lying goal (in_round r)) → Mem y (left ++ lying q G)
          held_too y u =
              let a = mem_lying goal (in_round r) y u in
              let known = whole.placed.lies.known a.0 y a.1 in
              elim (yes_or_no (is_set q y)) [
                | inl there ↦ (let b = set_where q y there in
                    let same : a.0 ≡ b.0 = whole.placed.once a.0 b.0 y a.1 (t.part b.0 y b.1) in
                    mem_right y left _ (lying_mem q G b.0 y b.1 (below b.0 (subst (λ k. In (in_round r) k) same a.2))))
                | inr free ↦ elim (t.held.list.all y known free) [
                  | inl e ↦ (let h = (rank_first y known).lowest r zero-le (mem_test y _ u) in let f = ap rank e in absurd (omega arith))
                  | inr there ↦ mem_left y left _ there
                ]
              ]

      no_round : Sub (in_round 0) G
      unfolding round
      no_round = none_sub w.places G

      climbs : (r : ℕ) → r ≤ rank x → Sub (in_round r) G
      climbs zero h = no_round
      climbs (suc r) h = climb r h (climbs r (omega arith))

      -- where the item goes
      record Candidate : Type 0 where
        k : ℕ
        candidate : Mem k (candidates m w q left)
        onward : Towards (set q k (Some x)) left

      to_its_place : Candidate
      to_its_place =
          let listed : Mem x (x ∷ left) = inl refl in
          let known = (t.held.list.free x listed).0 in
          let a = mem_lying goal (in_round (rank x)) x (test_mem x _ (rank_first x known).passes) in
          let k : ℕ = a.0 in
          let found : In G k = climbs (rank x) (omega arith) k a.2 in
          let empty : item_at q k ≡ None = none_there k a.1 (item_at q k) refl in
          let candidate : Mem k (candidates m w q left) = candidate_from q left k empty found in
          let inside : k < length q = subst (λ n. k < n) (sym t.held.placed.lies.fits) (gathered_place m l w q _ k found) in
          record {
            k = k;
            candidate = candidate;
            onward = record {
              held = drawn_held m l w q (x ∷ left) t.held 0 (omega arith) k candidate;
              part = λ i z e. elim (set_came q k x inside i z e) [
                | inl c ↦ ap (item_at goal) c.0 ∙ a.1 ∙ ap Some (sym c.1)
                | inr c ↦ t.part i z c
              ];
            };
          }
        where
          none_there : (k : ℕ) → item_at goal k ≡ Some x → (o : Option ℕ) → item_at q k ≡ o → item_at q k ≡ None
          none_there k g None e = e
          none_there k g (Some z) e =
              let same : z ≡ x = some_same z x (sym (t.part k z e) ∙ g) in
              absurd ((t.held.list.free x (inl refl)).1 (there_set q k x (e ∙ ap Some same)))

    abbrev TapeTo : ℕ → Placement → List ℕ → Type 0
    TapeTo n q items = (numbers : List ℕ) × (length numbers ≡ n + n) × AllByRecursion (λ x. x < 65536) numbers × (attempt m w tape n numbers q items ≡ complete goal [])

    tape_to : length w.places ≤ 256 → (n : ℕ) (q : Placement) (items : List ℕ) → length items ≡ n → Towards q items → TapeTo n q items
    tape_to few zero q [] e t = ([], refl, tt, ap (λ p. complete p []) (reached_goal q t))
    tape_to few zero q (x ∷ left) e t = let z : ⊥ = omega arith in absurd z
    tape_to few (suc n) q [] e t = let z : ⊥ = omega arith in absurd z
    tape_to few (suc n) q (x ∷ left) e t =
        let c = to_its_place q x left t in
        let d = mem_at c.k (candidates m w q left) c.candidate in
        let rest = tape_to few n (set q c.k (Some x)) left (omega arith) c.onward in
        let there : attempt m w tape n rest.0 (set q (get_or (candidates m w q left) d.0 0) (Some x)) left ≡ attempt m w tape n rest.0 (set q c.k (Some x)) left =
        ap (λ i. attempt m w tape n rest.0 (set q i (Some x)) left) d.2 in (
          0 ∷ d.0 ∷ rest.0,
          (let r = rest.1 in omega arith),
          (omega arith, ((let h = d.1 in let f = few_candidates q left in omega arith), rest.2)),
          tape_step n 0 d.0 rest.0 q (x ∷ left) (omega arith) d.1 ∙ there ∙ rest.3,
        )

    few_unset : length w.pool ≤ 256 → (p : Placement) → length (unset w p) ≤ 256
    unfolding unset
    few_unset few p = let h = length_kept (λ i. not (is_set p i)) 0 (length w.pool) in omega arith

    whole_left : T (proper w) → (b : Board) → Supported m w b.placement → b.hand ≡ None → Extends b.placement goal → (numbers : List ℕ) × FilledFrom m w b goal numbers
    whole_left kept b supported free part =
        let facts = proper_facts w kept in
        let p : Placement = b.placement in
        let items : List ℕ = unset w p in
        let t = tape_to facts.few_places (length items) p items refl (record { held = held_from m l w p supported; part = part }) in
        let f : Placement → List ℕ → Filling (List ℕ) = λ p x. record { answer = Ok 1; board = record { placement = p; hand = None }; state = x } in
        let g : ℕ → List ℕ → Filling (List ℕ) = λ item x. tries m w tape b 0 2 x item in
        let e : filling m w tape b t.0 1 work_marks ≡ f goal [] =
        cond-false {A = Filling (List ℕ)} (not (no_item b.hand)) _ _ (ap (λ o. not (no_item o)) free) ∙ ap (either_end f g) t.3 in (
          t.0,
          record { drawn = ((let r = t.1 in let few = few_unset facts.few_items p in omega arith), t.2); accepted = ap (λ r. r.answer) e; leaves = ap (λ r. r.board.placement) e },
        )

module _ (m : Meaning) (l : Lawful m) (w : World) (kept : T (proper w)) where
  reach : (calls : List Call) → (let b = after m w (new_board w) calls in b.hand ≡ None → (p : Placement) → ((numbers : List ℕ) × FilledFrom m w b p numbers) ↔ (Whole m w p × Extends b.placement p))
  reach calls free p =
      let b : Board = after m w (new_board w) calls in (
        λ f. subst (λ q. Whole m w q × Extends b.placement q) f.1.leaves (fills_are_whole m l tape tape_fair w calls f.0 1 work_marks 1 f.1.accepted),
        λ h. whole_left m l w p h.0 kept b (boards_stay_supported m l w calls).supported free h.1,
      )

  reach_new : (p : Placement) → ((numbers : List ℕ) × FilledFrom m w (new_board w) p numbers) ↔ Whole m w p
  reach_new p = (
    λ f. ((reach [] refl p).0 f).0,
    λ whole. (reach [] refl p).1 (whole, λ k i e. not_both _ i (empty_at w.places k) e),
  )

pub fills_reach_each_whole : (m : Meaning) → Lawful m → FillsReachEachWhole m
fills_reach_each_whole m l = record { on_new = reach_new m l; going_on = reach m l }
