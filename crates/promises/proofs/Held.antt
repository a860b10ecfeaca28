-- The stock and the items that are not set gather every item that is set: so it stays where an item is set, and where one is taken up.
use Rattle.std.proofs.Common.{◌≡◌, ℕ, ◌<◌, Bool, T, ◌⊎◌, List, ◌∷◌, ◌++◌, length, set, Some, None, Option, sym, ap, ◌∙◌, subst, inl, inr, length-set}
use Rattle.std.proofs.lemmas.List.{get_or-set_same, get_or-set_other}
use Rattle.std.proofs.lemmas.Bool.{cases_eq}
use Rattle.inventory.specs.Meaning.{Meaning, Lawful}
use Rattle.model.specs.Marks.{In, Sub}
use Rattle.model.specs.Worlds.{World, stocked}
use Rattle.model.specs.Placements.{Placement, item_at, lying, gathered, Placed}
use Rattle.model.specs.Boards.{is_set, unset, gathered_with}
use Rattle.model.proofs.Sets.{in_length, none_some}
use Rattle.model.proofs.Grows.{length_gathered}
use Rattle.model.proofs.Items.{Mem, Distinct, distinct_lying, mem_lying, lying_mem}
use Rattle.promises.specs.Promises.{Supported}
use Rattle.promises.proofs.Listed.{Unset, unset_is, mem_left, mem_right, mem_cases, distinct_append, set_where, there_set, gathered_within}

pub some_same : (i j : ℕ) → ◌≡◌ {A = Option ℕ} (Some i) (Some j) → i ≡ j
some_same i j e = cc

pub not_both : {A : Type 0} (o : Option ℕ) (i : ℕ) → o ≡ None → o ≡ Some i → A
not_both o i e f = none_some i (sym e ∙ f)

pub gathered_place : (m : Meaning) (l : Lawful m) (w : World) (p : Placement) (v : m.Value) (k : ℕ) → In (gathered m w p v) k → k < length w.places
gathered_place m l w p v k t = subst (λ n. k < n) (length_gathered m l w p v) (in_length (gathered m w p v) k t)

pub unset_lying : (w : World) (p : Placement) (items : List ℕ) (s : List Bool) → Placed w p → Unset w p items → Distinct (items ++ lying p s)
unset_lying w p items s placed u =
    distinct_append items (lying p s) u.apart (distinct_lying p s placed.once)
    (λ x h k. let r = mem_lying p s x k in (u.free x h).1 (there_set p r.0 x r.1))

pub record Held (m : Meaning) (w : World) (p : Placement) (items : List ℕ) : Type 0 where
  pub placed : Placed w p
  pub list : Unset w p items
  pub gathers : (k i : ℕ) → item_at p k ≡ Some i → In (gathered_with m w p items) k

module _ (m : Meaning) (l : Lawful m) (w : World) where
  pub held_from : (p : Placement) → Supported m w p → Held m w p (unset w p)
  held_from p s = record { placed = s.placed; list = unset_is w p; gathers = s.gathers }

  -- the list's order does not matter
  pub supported_from : (p : Placement) (items : List ℕ) → Held m w p items → Supported m w p
  supported_from p items h = record {
    placed = h.placed;
    gathers = λ k i e. same k (h.gathers k i e);
  }
    where
      same : Sub (gathered_with m w p items) (gathered_with m w p (unset w p))
      same = gathered_within m l w (stocked m w) p p items (unset w p) (
        unset_lying w p items _ h.placed h.list,
        λ x t. elim (mem_cases x items _ t) [
          | inl u ↦ mem_left x (unset w p) _ ((unset_is w p).all x (h.list.free x u).0 (h.list.free x u).1)
          | inr u ↦ mem_right x (unset w p) _ u
        ],
      )

  -- an item goes from the list to an empty place that the rest of the list gathers
  module _ (p : Placement) (items : List ℕ) (held : Held m w p items)
      (x : ℕ) (listed : Mem x items)
      (left : List ℕ) (apart : Distinct left) (fewer : (z : ℕ) → Mem z left → Mem z items × (z ≡ x → ⊥)) (others : (z : ℕ) → Mem z items → (z ≡ x → ⊥) → Mem z left)
      (k : ℕ) (empty : item_at p k ≡ None) (found : In (gathered_with m w p left) k) where
    abbrev next : Placement
    next = set p k (Some x)

    here : item_at next k ≡ Some x
    here = get_or-set_same p k (Some x) None (subst (λ n. k < n) (sym held.placed.lies.fits) (gathered_place m l w p _ k found))

    there : (j : ℕ) → (j ≡ k → ⊥) → item_at next j ≡ item_at p j
    there j n = get_or-set_other p k j (Some x) None n

    kept : (j i : ℕ) → item_at p j ≡ Some i → item_at next j ≡ Some i
    kept j i e = there j (λ q. not_both (item_at p k) i empty (subst (λ y. item_at p y ≡ Some i) q e)) ∙ e

    -- where an item lies now
    came : (j i : ℕ) → item_at next j ≡ Some i → ((j ≡ k) × (i ≡ x)) ⊎ (item_at p j ≡ Some i)
    came j i e = elim (cases_eq j k) [
      | inl q ↦ inl (q, some_same i x (sym e ∙ subst (λ y. item_at next y ≡ Some x) (sym q) here))
      | inr n ↦ inr (sym (there j n) ∙ e)
    ]

    was_unset : (j : ℕ) → item_at p j ≡ Some x → ⊥
    was_unset j e = (held.list.free x listed).1 (there_set p j x e)

    next_placed : Placed w next
    next_placed = record {
      lies = record {
        fits = length-set p k (Some x) ∙ held.placed.lies.fits;
        known = λ j i e. elim (came j i e) [
          | inl q ↦ subst (λ y. y < length w.pool) (sym q.1) (held.list.free x listed).0
          | inr q ↦ held.placed.lies.known j i q
        ];
      };
      once = λ j j' i e e'. elim (came j i e) [
        | inl q ↦ elim (came j' i e') [
          | inl q' ↦ q.0 ∙ sym q'.0
          | inr q' ↦ absurd (was_unset j' (subst (λ y. item_at p j' ≡ Some y) q.1 q'))
        ]
        | inr q ↦ elim (came j' i e') [
          | inl q' ↦ absurd (was_unset j (subst (λ y. item_at p j ≡ Some y) q'.1 q))
          | inr q' ↦ held.placed.once j j' i q q'
        ]
      ];
    }

    next_unset : Unset w next left
    next_unset = record {
      apart = apart;
      free = λ z h. (
        (held.list.free z (fewer z h).0).0,
        λ t. let r = set_where next z t in elim (came r.0 z r.1) [
          | inl q ↦ (fewer z h).1 q.1
          | inr q ↦ (held.list.free z (fewer z h).0).1 (there_set p r.0 z q)
        ],
      );
      all = λ z h n.
          others z
          (held.list.all z h (λ t. let r = set_where p z t in n (there_set next r.0 z (kept r.0 z r.1))))
          (λ q. n (subst (λ y. T (is_set next y)) (sym q) (there_set next k x here)));
    }

    abbrev goal : List Bool
    goal = gathered_with m w next left

    lies : (z : ℕ) → Mem z (lying p goal) → Mem z (lying next goal)
    lies z t = let r = mem_lying p goal z t in lying_mem next goal r.0 z (kept r.0 z r.1) r.2

    left_lying : Distinct (left ++ lying p goal)
    left_lying = distinct_append left (lying p goal) apart (distinct_lying p goal held.placed.once)
        (λ z h t. let r = mem_lying p goal z t in (held.list.free z (fewer z h).0).1 (there_set p r.0 z r.1))

    reaches : In goal k
    reaches = gathered_within m l w (stocked m w) p next left left
        (left_lying, λ z t. elim (mem_cases z left _ t) [ inl u ↦ mem_left z left _ u | inr u ↦ mem_right z left _ (lies z u) ])
        k found

    as_before : Sub (gathered_with m w p items) goal
    as_before = gathered_within m l w (stocked m w) p next items left (
      unset_lying w p items goal held.placed held.list,
      λ z t. elim (mem_cases z items _ t) [
        | inl u ↦ elim (cases_eq z x) [
          | inl q ↦ mem_right z left _ (lying_mem next goal k z (here ∙ ap Some (sym q)) reaches)
          | inr q ↦ mem_left z left _ (others z u q)
        ]
        | inr u ↦ mem_right z left _ (lies z u)
      ],
    )

    pub set_held : Held m w next left
    set_held = record {
      placed = next_placed;
      list = next_unset;
      gathers = λ j i e. elim (came j i e) [
        | inl q ↦ subst (λ y. In goal y) (sym q.0) reaches
        | inr q ↦ as_before j (held.gathers j i q)
      ];
    }

  -- an item goes from its place to the list
  module _ (p : Placement) (items : List ℕ) (held : Held m w p items) (k x : ℕ) (lay : item_at p k ≡ Some x) where
    abbrev bare : Placement
    bare = set p k None

    empty_here : k < length p → item_at bare k ≡ None
    empty_here h = get_or-set_same p k None None h

    beside : (j : ℕ) → (j ≡ k → ⊥) → item_at bare j ≡ item_at p j
    beside j n = get_or-set_other p k j None None n

    place_there : k < length p
    place_there = subst (λ n. k < n) (sym held.placed.lies.fits) (gathered_place m l w p _ k (held.gathers k x lay))

    was : (j i : ℕ) → item_at bare j ≡ Some i → (item_at p j ≡ Some i) × (j ≡ k → ⊥)
    was j i e = elim (cases_eq j k) [
      | inl q ↦ not_both (item_at bare j) i (subst (λ y. item_at bare y ≡ None) (sym q) (empty_here place_there)) e
      | inr n ↦ (sym (beside j n) ∙ e, n)
    ]

    pub still_unset : (z : ℕ) → (T (is_set p z) → ⊥) → T (is_set bare z) → ⊥
    still_unset z n t = let r = set_where bare z t in n (there_set p r.0 z (was r.0 z r.1).0)

    bare_unset : Unset w bare (x ∷ items)
    bare_unset = record {
      apart = (λ t. (held.list.free x t).1 (there_set p k x lay), held.list.apart);
      free = λ z h. elim h [
        | inl q ↦ (
          subst (λ y. y < length w.pool) (sym q) (held.placed.lies.known k x lay),
          λ t. let r = set_where bare z t in let s = was r.0 z r.1 in s.1 (held.placed.once r.0 k x (subst (λ y. item_at p r.0 ≡ Some y) q s.0) lay),
        )
        | inr u ↦ ((held.list.free z u).0, still_unset z (held.list.free z u).1)
      ];
      all = λ z h n. elim (cases_eq z x) [
        | inl q ↦ inl q
        | inr q ↦ inr (held.list.all z h (λ t.
            let r = set_where p z t in
            let moved : r.0 ≡ k → ⊥ = λ e. q (some_same z x (sym r.1 ∙ ap (item_at p) e ∙ lay)) in
            n (there_set bare r.0 z (beside r.0 moved ∙ r.1))))
      ];
    }

    abbrev wide : List Bool
    wide = gathered_with m w bare (x ∷ items)

    more : Sub (gathered_with m w p items) wide
    more = gathered_within m l w (stocked m w) p bare items (x ∷ items) (
      unset_lying w p items wide held.placed held.list,
      λ z t. elim (mem_cases z items _ t) [
        | inl u ↦ inr (mem_left z items _ u)
        | inr u ↦ (let r = mem_lying p wide z u in elim (cases_eq r.0 k) [
          | inl e ↦ inl (some_same z x (sym r.1 ∙ ap (item_at p) e ∙ lay))
          | inr n ↦ inr (mem_right z items _ (lying_mem bare wide r.0 z (beside r.0 n ∙ r.1) r.2))
        ])
      ],
    )

    pub unset_held : Held m w bare (x ∷ items)
    unset_held = record {
      placed = record {
        lies = record {
          fits = length-set p k None ∙ held.placed.lies.fits;
          known = λ j i e. held.placed.lies.known j i (was j i e).0;
        };
        once = λ j j' i e e'. held.placed.once j j' i (was j i e).0 (was j' i e').0;
      };
      list = bare_unset;
      gathers = λ j i e. more j (held.gathers j i (was j i e).0);
    }
