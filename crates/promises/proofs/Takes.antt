-- Runs: what is taken grows by one with each accepted take, stays within the rounds, and while something is ahead something is open.
use Rattle.std.proofs.Common.{◌≡◌, ℕ, zero, suc, ◌+◌, ◌<◌, ◌≤◌, Bool, true, false, cond, not, ◌&&◌, ltb, ◌⊎◌, List, [], ◌∷◌, map, length, set, replicate, Some, None, Ok, Err, Option, Result, sym, refl, ap, ◌∙◌, subst, inl, inr, suc-le-suc, zero-le, le_of_suc-le-suc, not-suc-le-zero, add-zero, add-one, arith, T_not, length-set}
use lib.Dec.{not_T}
use lib.ListN.{length-map}
use Rattle.std.proofs.lemmas.Bool.{cond-true, cond-false, lt-ltb, le-ltb}
use Rattle.inventory.specs.Meaning.{Meaning, Lawful}
use Rattle.model.specs.declared.run_refusal.RunRefusal.{RunRefusal}
use Rattle.model.specs.declared.run_refusal.RunRefusal.TheVariants as refusal
use Rattle.model.specs.declared.sight.Sight.{Sight}
use Rattle.model.specs.declared.sight.Sight.TheVariants.{Taken, Open, Closed}
use Rattle.model.specs.Marks.{at, In, Sub, tabulate, count, work_marks}
use Rattle.model.specs.Worlds.{World, stocked, finishable}
use Rattle.model.specs.Placements.{Placement, item_at, gains, round, sphere, Placed, Whole}
use Rattle.model.specs.Runs.{Course, Run, Ask, Reply, marked, and_then, ready, ready_at, open_now, sight, next_open, yet_to_take, item_taken, look_answer, take_answer, hint_answer, sphere_answer, told, accepted, reply, run_after, takes}
use Rattle.model.specs.Runs.Ask.{look, take, hint, ahead, sphere_of}
use Rattle.model.specs.Runs.Reply.{stands, got, named, in_sphere}
use Rattle.model.proofs.Sets.{and_both, and_from, cond_ways, yes_or_no, true_if, false_if, sub_trans, tabulate_in, none_sub, in_length, First, first_some, first_finds}
use Rattle.model.proofs.Grows.{gains_grow, length_opens, length_finishable, round_rises, gathered_least}
use Rattle.model.proofs.Items.{Mem}
use Rattle.model.proofs.Spheres.{sphere_is, sphere_found, gains_finishable, finishable_gains}
use Rattle.promises.specs.Promises.{NeverStalls, taken_by, places_taken}
use Rattle.promises.proofs.Listed.{mem_left, mem_right, mem_cases}
use Rattle.promises.proofs.Held.{not_both}

-- sets

in_set : (s : List Bool) (k j : ℕ) → In (set s k true) j → (j ≡ k) ⊎ In s j
in_set [] k j t = inr t
in_set (b ∷ s) zero zero t = inl refl
in_set (b ∷ s) zero (suc j) t = inr t
in_set (b ∷ s) (suc k) zero t = inr t
in_set (b ∷ s) (suc k) (suc j) t = elim (in_set s k j t) [ inl e ↦ inl (ap suc e) | inr u ↦ inr u ]

set_in : (s : List Bool) (k j : ℕ) → In s j → In (set s k true) j
set_in [] k j t = t
set_in (b ∷ s) zero zero t = tt
set_in (b ∷ s) zero (suc j) t = t
set_in (b ∷ s) (suc k) zero t = t
set_in (b ∷ s) (suc k) (suc j) t = set_in s k j t

set_there : (s : List Bool) (k : ℕ) → k < length s → In (set s k true) k
set_there [] k h = absurd (not-suc-le-zero h)
set_there (b ∷ s) zero h = tt
set_there (b ∷ s) (suc k) h = set_there s k (le_of_suc-le-suc h)

count_set : (s : List Bool) (k : ℕ) → k < length s → (In s k → ⊥) → count (set s k true) ≡ suc (count s)
count_set [] k h n = absurd (not-suc-le-zero h)
count_set (true ∷ s) zero h n = absurd (n tt)
count_set (false ∷ s) zero h n = refl
count_set (true ∷ s) (suc k) h n = ap suc (count_set s k (le_of_suc-le-suc h) n)
count_set (false ∷ s) (suc k) h n = count_set s k (le_of_suc-le-suc h) n

count_none : {A : Type 0} (xs : List A) → count (map (λ x. false) xs) ≡ 0
count_none [] = refl
count_none (x ∷ xs) = count_none xs

count_some : (s : List Bool) → 0 < count s → (k : ℕ) × In s k
count_some [] h = absurd (not-suc-le-zero h)
count_some (true ∷ s) h = (0, tt)
count_some (false ∷ s) h = let r = count_some s h in (suc r.0, r.1)

-- a part of a set and what is left of it
count_parts : (s t : List Bool) (n : ℕ) → length s ≡ n → length t ≡ n → Sub t s → count (tabulate n (λ k. at s k && not (at t k))) + count t ≡ count s
count_parts [] [] zero d e h = refl
count_parts [] [] (suc n) d e h = let z : ⊥ = omega arith in absurd z
count_parts [] (b ∷ t) n d e h = let z : ⊥ = omega arith in absurd z
count_parts (a ∷ s) [] n d e h = let z : ⊥ = omega arith in absurd z
count_parts (a ∷ s) (b ∷ t) zero d e h = let z : ⊥ = omega arith in absurd z
count_parts (true ∷ s) (true ∷ t) (suc n) d e h = let q = count_parts s t n (omega arith) (omega arith) (λ k. h (suc k)) in omega arith
count_parts (true ∷ s) (false ∷ t) (suc n) d e h = let q = count_parts s t n (omega arith) (omega arith) (λ k. h (suc k)) in omega arith
count_parts (false ∷ s) (true ∷ t) (suc n) d e h = absurd (h 0 tt)
count_parts (false ∷ s) (false ∷ t) (suc n) d e h = count_parts s t n (omega arith) (omega arith) (λ k. h (suc k))

-- answers

none_taken : {A : Type 0} (say : A → Reply) → ((x : A) → accepted (say x) ≡ 0) → (r : Result A RunRefusal) → accepted (told say r) ≡ 0
none_taken say h (Ok x) = h x
none_taken say h (Err e) = refl

ready_is : (c : Course) (lent : ℕ) → work_marks ≤ lent → ready (Some c) lent ≡ Ok c
ready_is c lent h = cond-false {A = Result Course RunRefusal} (ltb lent work_marks) _ _ (le-ltb lent work_marks h)

pub same_some : {A : Type 0} (x y : A) → ◌≡◌ {A = Option A} (Some x) (Some y) → x ≡ y
same_some x y e = cc

module _ (m : Meaning) (l : Lawful m) (w : World) (p : Placement) where
  -- the run with these places taken
  abbrev pub with_taken : List Bool → Course
  with_taken s = record { world = w; placement = p; taken = s }

  open_is : (s : List Bool) → open_now m (with_taken s) ≡ gains m w p (stocked m w) s
  unfolding open_now gains
  open_is s = refl

  open_grow : (s t : List Bool) → Sub s t → Sub (open_now m (with_taken s)) (open_now m (with_taken t))
  open_grow s t h = rw (open_is s, open_is t) (gains_grow m l w p (stocked m w) s t h)

  open_place : (s : List Bool) (k : ℕ) → In (open_now m (with_taken s)) k → k < length w.places
  unfolding open_now
  open_place s k t = subst (λ n. k < n) (length_opens m l w _) (in_length _ k t)

  open_round : (s : List Bool) (n : ℕ) → Sub s (round m w p (stocked m w) n) → Sub (open_now m (with_taken s)) (round m w p (stocked m w) (suc n))
  unfolding round
  open_round s n h = rw (open_is s) (gains_grow m l w p (stocked m w) s (round m w p (stocked m w) n) h)

  round_open : (s : List Bool) (n : ℕ) → Sub (round m w p (stocked m w) n) s → Sub (round m w p (stocked m w) (suc n)) (open_now m (with_taken s))
  unfolding round
  round_open s n h = rw (open_is s) (gains_grow m l w p (stocked m w) (round m w p (stocked m w) n) s h)

  no_round : (s : List Bool) → Sub (round m w p (stocked m w) 0) s
  unfolding round
  no_round s = none_sub w.places s

  -- what is taken after n accepted takes
  pub record Well (s : List Bool) (n : ℕ) : Type 0 where
    pub size : length s ≡ length w.places
    pub counted : count s ≡ n
    pub within : Sub s (round m w p (stocked m w) n)
    pub ends : Sub s (finishable m w)

  pub well_none : Well (map (λ q. false) w.places) 0
  well_none = record {
    size = length-map w.places _;
    counted = count_none w.places;
    within = none_sub w.places _;
    ends = none_sub w.places _;
  }

  module _ (placed : Placed w p) where
    -- one more taken
    well_more : (s : List Bool) (n : ℕ) → Well s n → (k : ℕ) → (In s k → ⊥) → In (open_now m (with_taken s)) k → Well (set s k true) (suc n)
    well_more s n h k fresh t = record {
      size = length-set s k true ∙ h.size;
      counted = count_set s k (subst (λ x. k < x) (sym h.size) (open_place s k t)) fresh ∙ ap suc h.counted;
      within = λ j u. elim (in_set s k j u) [
        | inl e ↦ subst (λ x. In (round m w p (stocked m w) (suc n)) x) (sym e) (open_round s n h.within k t)
        | inr v ↦ round_rises m l w p (stocked m w) n j (h.within j v)
      ];
      ends = λ j u. elim (in_set s k j u) [
        | inl e ↦ subst (λ x. In (finishable m w) x) (sym e) (gains_finishable m l w p placed s k (rw (sym (open_is s)) t))
        | inr v ↦ h.ends j v
      ];
    }

    -- the run goes on with more taken: as many as were accepted, and at these places
    pub record Goes_on (s : List Bool) (n : ℕ) (run : Run) (more : ℕ) (places : List ℕ) : Type 0 where
      pub then : List Bool
      pub is : run ≡ Some (with_taken then)
      pub well : Well then (n + more)
      pub grows : Sub s then
      pub came : (k : ℕ) → In then k → In s k ⊎ Mem k places
      pub kept : (k : ℕ) → Mem k places → In then k

    stays : (s : List Bool) (n : ℕ) → Well s n → (more : ℕ) → more ≡ 0 → Goes_on s n (Some (with_taken s)) more []
    stays s n h more e = record {
      then = s;
      is = refl;
      well = subst (λ x. Well s x) (sym (ap (λ k. n + k) e ∙ add-zero n)) h;
      grows = λ k t. t;
      came = λ k t. inl t;
      kept = λ k t. absurd t;
    }

    module _ (s : List Bool) (n : ℕ) (h : Well s n) where
      abbrev c : Course
      c = with_taken s

      abbrev Takes : ℕ → Result (Option ℕ) RunRefusal → Type 0
      Takes k r = Goes_on s n (elim r [ Ok item ↦ Some (marked c k) | Err e ↦ Some c ]) (accepted (told got r)) (replicate (accepted (told got r)) k)

      one_more : (k : ℕ) → (In s k → ⊥) → In (open_now m c) k → Takes k (Ok (item_at p k))
      one_more k fresh t = record {
        then = set s k true;
        is = refl;
        well = subst (λ x. Well (set s k true) x) (sym (add-one n)) (well_more s n h k fresh t);
        grows = set_in s k;
        came = λ j u. elim (in_set s k j u) [ inl e ↦ inr (inl e) | inr v ↦ inl v ];
        kept = λ j u. elim u [
          | inl e ↦ subst (λ x. In (set s k true) x) (sym e) (set_there s k (subst (λ x. k < x) (sym h.size) (open_place s k t)))
          | inr v ↦ absurd v
        ];
      }

      take_goes_on : (k lent : ℕ) → Takes k (take_answer m (Some c) k lent)
      take_goes_on k lent =
          cond_ways (λ r. Takes k (and_then (and_then r (λ c. cond (ltb k (length c.world.places)) (Ok c) (Err refusal.NoPlace))) (λ c. item_taken m c k))) (ltb lent work_marks) _ _ (λ t. stays s n h 0 refl) (λ n₁.
          cond_ways (λ r. Takes k (and_then r (λ c. item_taken m c k))) (ltb k (length w.places)) _ _
          (λ known.
          cond_ways seen (at s k) _ _ (λ t. stays s n h 0 refl) (λ fresh.
          cond_ways seen (at (open_now m c) k) _ _ (one_more k fresh) (λ n₃. stays s n h 0 refl)))
          (λ n₂. stays s n h 0 refl))
        where
          seen : Sight → Type 0
          seen v = Takes k (elim v [ Taken ↦ Err refusal.AlreadyTaken | Open ↦ Ok (item_at p k) | Closed ↦ Err refusal.Closed ])

      reply_goes_on : (ask : Ask) → Goes_on s n (reply m (Some c) ask).1 (accepted (reply m (Some c) ask).0) (taken_by ask (reply m (Some c) ask).0)
      reply_goes_on (look k lent) = stays s n h _ (none_taken stands (λ x. refl) (look_answer m (Some c) k lent))
      reply_goes_on (take k lent) = take_goes_on k lent
      reply_goes_on (hint lent) = stays s n h _ (none_taken named (λ x. refl) (hint_answer m (Some c) lent))
      reply_goes_on ahead = stays s n h 0 refl
      reply_goes_on (sphere_of k lent) = stays s n h _ (none_taken in_sphere (λ x. refl) (sphere_answer m (Some c) k lent))

    pub run_goes_on : (s : List Bool) (n : ℕ) → Well s n → (asks : List Ask)
        → Goes_on s n (run_after m (Some (with_taken s)) asks) (takes m (Some (with_taken s)) asks) (places_taken m (Some (with_taken s)) asks)
    run_goes_on s n h [] = stays s n h 0 refl
    run_goes_on s n h (ask ∷ asks) =
        let c : Course = with_taken s in
        let r : Reply × Run = reply m (Some c) ask in
        let a : ℕ = accepted r.0 in
        let g = reply_goes_on s n h ask in
        let q = run_goes_on g.then (n + a) g.well asks in
        let next : Run = Some (with_taken g.then) in
        let here : List ℕ = taken_by ask r.0 in
        let same : run_after m r.1 asks ≡ run_after m next asks = ap (λ r. run_after m r asks) g.is in
        let count_same : takes m r.1 asks ≡ takes m next asks = ap (λ r. takes m r asks) g.is in
        let places_same : places_taken m r.1 asks ≡ places_taken m next asks = ap (λ r. places_taken m r asks) g.is in
        record {
          then = q.then;
          is = same ∙ q.is;
          well = subst (λ x. Well q.then x) (omega arith) q.well;
          grows = sub_trans s g.then q.then g.grows q.grows;
          came = λ k t. elim (q.came k t) [
            | inl u ↦ elim (g.came k u) [ inl v ↦ inl v | inr v ↦ inr (mem_left k here _ v) ]
            | inr u ↦ inr (mem_right k here _ (subst (λ xs. Mem k xs) (sym places_same) u))
          ];
          kept = λ k t. elim (mem_cases k here _ t) [
            | inl u ↦ q.grows k (g.kept k u)
            | inr u ↦ q.kept k (subst (λ xs. Mem k xs) places_same u)
          ];
        }

  module _ (whole : Whole m w p) where
    -- where all that is open is taken, so is all that is finishable
    all_taken : (s : List Bool) → Sub (open_now m (with_taken s)) s → Sub (finishable m w) s
    all_taken s h =
        let closed : Sub (gains m w p (stocked m w) s) s = rw (sym (open_is s)) h in
        sub_trans (finishable m w) (gains m w p (stocked m w) s) s (finishable_gains m l w p whole s (gathered_least m l w p (stocked m w) s closed)) closed

    -- something to take
    abbrev Next : List Bool → Type 0
    Next s = (k : ℕ) × (next_open m (with_taken s) ≡ Some k) × In (open_now m (with_taken s)) k × (In s k → ⊥)

    next_is : (s : List Bool) → 0 < yet_to_take m (with_taken s) → Next s
    unfolding next_open yet_to_take
    next_is s some = go (next_open m (with_taken s)) refl
      where
        go : (o : Option ℕ) → next_open m (with_taken s) ≡ o → Next s
        go (Some k) e =
            let f = first_some (length w.places) 0 _ k e in
            let b = and_both (at (open_now m (with_taken s)) k) (not (at s k)) f.passes in
            (k, e, b.0, T_not (at s k) b.1)
        go None e =
            let closed : Sub (open_now m (with_taken s)) s = λ k t. elim (yes_or_no (at s k)) [
              | inl u ↦ u
              | inr u ↦ (let r = first_finds (length w.places) 0 _ k zero-le (let q = open_place s k t in omega arith) (and_from (at (open_now m (with_taken s)) k) (not (at s k)) t (not_T (at s k) u)) in
                  not_both (next_open m (with_taken s)) r.0 e r.1)
            ] in
            let r = count_some _ some in
            let b = (tabulate_in (length w.places) _ r.0 r.1).1 in
            let d = and_both (at (finishable m w) r.0) (not (at s r.0)) b in
            absurd (T_not (at s r.0) d.1 (all_taken s closed r.0 d.0))

    hinted : (s : List Bool) (lent : ℕ) → work_marks ≤ lent → 0 < yet_to_take m (with_taken s)
        → (k : ℕ) × (hint_answer m (Some (with_taken s)) lent ≡ Ok (Some k)) × (look_answer m (Some (with_taken s)) k lent ≡ Ok Open)
    hinted s lent h some =
        let c : Course = with_taken s in
        let r = next_is s some in
        let k : ℕ = r.0 in
        let ready-here = ready_is c lent h in
        let known : ltb k (length w.places) ≡ true = lt-ltb k (length w.places) (open_place s k r.2) in
        let here : ready_at (Some c) k lent ≡ Ok c =
        ap (λ a. and_then a (λ c. cond (ltb k (length c.world.places)) (Ok c) (Err refusal.NoPlace))) ready-here
        ∙ cond-true {A = Result Course RunRefusal} (ltb k (length w.places)) _ _ known in
        let stand : sight m c k ≡ Open =
        cond-false {A = Sight} (at s k) _ _ (false_if (at s k) r.3)
        ∙ cond-true {A = Sight} (at (open_now m c) k) _ _ (true_if (at (open_now m c) k) r.2) in (
          k,
          ap (λ a. and_then a (λ c. Ok (next_open m c))) ready-here ∙ ap Ok r.1,
          ap (λ a. and_then a (λ c. Ok (sight m c k))) here ∙ ap Ok stand,
        )

    ahead_and_taken : (s : List Bool) (n : ℕ) → Well s n → yet_to_take m (with_taken s) + n ≡ count (finishable m w)
    unfolding yet_to_take
    ahead_and_taken s n h =
        ap (λ x. yet_to_take m (with_taken s) + x) (sym h.counted) ∙ count_parts (finishable m w) s (length w.places) (length_finishable m l w) h.size h.ends

    in_turn : (s : List Bool) (k r : ℕ) → First (length w.places) 1 (λ r. at (round m w p (stocked m w) r) k) r
        → ((j q : ℕ) → sphere m w p j ≡ Some q → q < r → In s j) → In (open_now m (with_taken s)) k
    in_turn s k zero f before = absurd (not-suc-le-zero f.from)
    in_turn s k (suc zero) f before = round_open s 0 (no_round s) k f.passes
    in_turn s k (suc (suc r)) f before =
        round_open s (suc r)
        (λ j t.
        let q = sphere_found m l w p j (suc r) (suc-le-suc zero-le) (let b = f.before in omega arith) t in
        before j q.0 q.1 (let b = (sphere_is m l w p j q.0 q.1).lowest (suc r) (suc-le-suc zero-le) t in omega arith))
        k f.passes

    pub never_stalls : (s : List Bool) (n : ℕ) → Well s n → NeverStalls m w p (with_taken s) n
    never_stalls s n h = record {
      same_world = refl;
      same_placement = refl;
      counts_down = ahead_and_taken s n h;
      hints = hinted s;
      stays_open = λ k asks c' e t.
          let g = run_goes_on whole.placed s n h asks in
          let same : with_taken g.then ≡ c' = same_some _ _ (sym g.is ∙ e) in
          subst (λ c. In (open_now m c) k) same (open_grow s g.then g.grows k t);
      opens_in_turn = λ k r e before. in_turn s k r (sphere_is m l w p k r e) before;
      opens_no_sooner = λ k r e t. let q = (sphere_is m l w p k r e).lowest (suc n) (suc-le-suc zero-le) (open_round s n h.within k t) in omega arith;
    }
