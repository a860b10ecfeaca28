-- Gathering in which each item counts at once.
use Rattle.std.proofs.Common.{◌≡◌, ℕ, zero, suc, ◌+◌, ◌<◌, Bool, true, false, T, List, [], ◌∷◌, length, get_or, take, set, replicate, Some, None, Option, sym, refl, ap, ◌∙◌, subst, le_of_suc-le-suc, not-suc-le-zero, arith, below_more}
use Rattle.std.proofs.lemmas.List.{get_or_default}
use Rattle.std.proofs.lemmas.Bool.{both_ways}
use Rattle.std.proofs.ByRecursion.{All-weaker}
use Rattle.inventory.specs.Meaning.{Meaning, Lawful, held}
use Rattle.scratch.specs.Marks.{region_marks, place_marks}
use Rattle.model.specs.Marks.{at, In, Sub, count}
use Rattle.model.specs.Rules.{reads}
use Rattle.model.specs.Proper.{Proper}
use Rattle.model.specs.Worlds.{World as Atlas, Gate as Gateway, Place as Spot, with_items, reached, opens}
use Rattle.model.specs.Placements.{Placement, item_at, lying, gains, gathered}
use Rattle.model.specs.Laws.{Closed}
use Rattle.model.proofs.Sets.{and_from, and_both, in_length, none_some}
use Rattle.model.proofs.Reading.{rule_grows}
use Rattle.model.proofs.Grows.{worth, with_items_is, items_below, lying_grow, gather_law, length_opens}
use Rattle.model.proofs.Reaches.{reach_law}
use Rattle.explore.specs.Marked.{places_in}
use Rattle.explore.specs.Reaching.{Spread}
use Rattle.explore.specs.Gathering.{with_item, in_the_end, Grew, Ahead, Looked, Quiet}
use Rattle.explore.proofs.Counting.{count_set, set_inside, none_in}
use Rattle.explore.proofs.Marked.{no_places_in}
use Rattle.explore.proofs.Opened.{open_row}
use Rattle.explore.proofs.Sweeping.{closed_reached}

module _ (m : Meaning) (l : Lawful m) (w : Atlas) where
  -- an item more, wherever it lies
  lying_set : (p : Placement) (s : List Bool) (k i : ℕ) → k < length s → at s k ≡ false → item_at p k ≡ Some i → worth m w (lying p (set s k true)) ≡ m.join (worth m w (lying p s)) (m.grain (get_or w.pool i 0))
  lying_set [] s k i h e f = none_some i f
  lying_set (o ∷ p) [] k i h e f = absurd (not-suc-le-zero h)
  lying_set (None ∷ p) (b ∷ s) zero i h e f = none_some i f
  lying_set (Some j ∷ p) (true ∷ s) zero i h e f = absurd (both_ways _ e refl)
  lying_set (Some j ∷ p) (false ∷ s) zero i h e f =
      let same : j ≡ i = cc in
      ap (λ x. m.join (m.grain (get_or w.pool x 0)) (worth m w (lying p s))) same ∙ l.comm _ _
  lying_set (None ∷ p) (b ∷ s) (suc k) i h e f = lying_set p s k i (le_of_suc-le-suc h) e f
  lying_set (Some j ∷ p) (false ∷ s) (suc k) i h e f = lying_set p s k i (le_of_suc-le-suc h) e f
  lying_set (Some j ∷ p) (true ∷ s) (suc k) i h e f =
      ap (m.join (m.grain (get_or w.pool j 0))) (lying_set p s k i (le_of_suc-le-suc h) e f) ∙ sym (l.assoc _ _ _)

  lying_bare : (p : Placement) (s : List Bool) (k : ℕ) → item_at p k ≡ None → lying p (set s k true) ≡ lying p s
  lying_bare [] s k f = refl
  lying_bare (o ∷ p) [] k f = refl
  lying_bare (None ∷ p) (b ∷ s) zero f = refl
  lying_bare (Some j ∷ p) (b ∷ s) zero f = none_some j (sym f)
  lying_bare (None ∷ p) (b ∷ s) (suc k) f = lying_bare p s k f
  lying_bare (Some j ∷ p) (true ∷ s) (suc k) f = ap (λ x. j ∷ x) (lying_bare p s k f)
  lying_bare (Some j ∷ p) (false ∷ s) (suc k) f = lying_bare p s k f

  -- what lies at a place is joined on as the place is marked
  joined_on : (p : Placement) (v : m.Value) (s : List Bool) (k : ℕ) (o : Option ℕ) → k < length s → at s k ≡ false → item_at p k ≡ o → with_item m w (with_items m w v (lying p s)) o ≡ with_items m w v (lying p (set s k true))
  joined_on p v s k None h e f = ap (with_items m w v) (sym (lying_bare p s k f))
  joined_on p v s k (Some i) h e f =
      let g : m.Value = m.grain (get_or w.pool i 0) in
      ap (λ x. m.join x g) (with_items_is m l w v (lying p s)) ∙ l.assoc v (worth m w (lying p s)) g
      ∙ ap (m.join v) (sym (lying_set p s k i h e f)) ∙ sym (with_items_is m l w v (lying p (set s k true)))

  module _ (p : Placement) (v : m.Value) where
    abbrev final : m.Value
    final = in_the_end m w p v

    module _ (r s : List Bool) (u : m.Value) (o : Ahead m w p v r s u) where
      below_final : m.Below u final
      below_final = subst (λ x. m.Below x final) (sym o.valued) (items_below m l w v v _ _ (l.reflexive v) (lying_grow m l w p s (gathered m w p v) o.places_sound))

      -- a place of a marked region whose rule is met is gathered
      gathers : (k : ℕ) (q : Spot) → k < length w.places → q ≡ get_or w.places k q → In r q.region → T (reads (held m u) q.rule) → In (gathered m w p v) k
      unfolding gains
      gathers k q h e near met =
          subst (λ x. In x k) (gather_law m l w p v).settled
          (subst T (open_row m w final k q h e) (and_from (at (reached m w final) q.region) _ (o.regions_sound q.region near) (rule_grows m l u final below_final q.rule met)))

      pub ahead_more : (k : ℕ) (q : Spot) (u' : m.Value) → k < length w.places → k < length s → q ≡ get_or w.places k q → In r q.region → T (reads (held m u) q.rule) → at s k ≡ false
          → u' ≡ with_item m w u (item_at p k) → Ahead m w p v r (set s k true) u'
      ahead_more k q u' h hs e near met fresh new = record {
        starts = o.starts;
        valued = new ∙ ap (λ x. with_item m w x (item_at p k)) o.valued ∙ joined_on p v s k (item_at p k) hs fresh refl;
        regions_sound = o.regions_sound;
        places_sound = set_inside s (gathered m w p v) k o.places_sound (gathers k q h e near met);
      }

      -- regions spread with the value by now
      pub ahead_spread : Proper w → (r' : List Bool) → Spread m w u r r' → Ahead m w p v r' s u
      ahead_spread proper r' a = record {
        starts = a.keeps 0 o.starts;
        valued = o.valued;
        regions_sound = a.sound (reached m w final)
            (All-weaker (λ (g : Gateway). In (reached m w final) g.near → T (reads (held m final) g.rule) → In (reached m w final) g.far) _
            (λ g c near met. c near (rule_grows m l u final below_final g.rule met)) w.gates (reach_law m l w final proper).closed)
            o.regions_sound;
        places_sound = o.places_sound;
      }

      -- nothing is left to open
      pub ahead_all : Proper w → length s ≡ length w.places → Closed m w u r → Looked m w u r s (length w.places) → s ≡ gathered m w p v
      unfolding gains
      ahead_all proper size closed looked =
          (gather_law m l w p v).only s size
          (subst (λ x. Sub (opens m w x) s) o.valued open_marked)
          o.places_sound where
            open_marked : Sub (opens m w u) s
            open_marked k t =
                let h : k < length w.places = subst (λ n. k < n) (length_opens m l w u) (in_length (opens m w u) k t) in
                let q : Spot = get_or w.places k (record { region = 0; rule = [] }) in
                let e : q ≡ get_or w.places k q = get_or_default w.places k _ q h in
                let both = and_both (at (reached m w u) q.region) _ (subst T (sym (open_row m w u k q h e)) t) in
                looked k h q e ((reach_law m l w u proper).least r o.starts closed q.region both.0) both.1

      -- the regions then are those reached in the end
      pub ahead_reached : Proper w → length r ≡ 64 → s ≡ gathered m w p v → Closed m w u r → take w.regions r ≡ reached m w final
      ahead_reached proper size all closed =
          closed_reached m w final proper (reach_law m l w final proper) r size o.starts
          (subst (λ x. Closed m w x r) (o.valued ∙ ap (λ t. with_items m w v (lying p t)) all) closed) o.regions_sound

-- no place was looked at yet
pub quiet_none : (m : Meaning) (w : Atlas) (u : m.Value) (r s : List Bool) → Quiet m w false u u r s 0
quiet_none m w u r s = (refl, λ j l. (let z : ⊥ = omega arith in absurd z))

-- one place more that was looked at
module _ (m : Meaning) (w : Atlas) (u₀ u : m.Value) (r s : List Bool) (k : ℕ) where
  pub quiet_more : (b : Bool) → Quiet m w b u₀ u r s k → (q : Spot) → k < length w.places → q ≡ get_or w.places k q → (In r q.region → T (reads (held m u) q.rule) → In s k) → Quiet m w b u₀ u r s (k + 1)
  quiet_more true o q h e f = tt
  quiet_more false o q h e f = (
    o.0,
    below_more (λ j. (x : Spot) → x ≡ get_or w.places j x → In r x.region → T (reads (held m u) x.rule) → In s j) k o.1 (λ x ex near met.
        let same : x ≡ q = ex ∙ get_or_default w.places k x q h ∙ sym e in
        f (subst (λ (y : Spot). In r y.region) same near) (subst (λ (y : Spot). T (reads (held m u) y.rule)) same met)),
  )

pub grew_more : (b : Bool) (s₀ s : List Bool) (k : ℕ) → Grew b s₀ s → k < length s → at s k ≡ false → count s₀ < count (set s k true)
grew_more true s₀ s k g h e = let one = count_set s k h e in omega arith
grew_more false s₀ s k g h e = let one = count_set s k h e in subst (λ x. count x < count (set s k true)) g (omega arith)

-- the start: region 0, and no place
none_lies : (p : Placement) (n : ℕ) → lying p (replicate n false) ≡ []
none_lies [] n = refl
none_lies (o ∷ p) zero = refl
none_lies (None ∷ p) (suc n) = none_lies p n
none_lies (Some i ∷ p) (suc n) = none_lies p n

pub ahead_none : (m : Meaning) (l : Lawful m) (w : Atlas) (p : Placement) (v : m.Value) → Proper w → (regions places : List ℕ) → region_marks regions ≡ set (replicate 64 false) 0 true → place_marks places ≡ replicate 256 false
    → Ahead m w p v (region_marks regions) (places_in w places) v
ahead_none m l w p v proper regions places er ep =
    let zeros : List Bool = replicate 64 false in
    let t : List Bool = reached m w (in_the_end m w p v) in
    let es = no_places_in w places proper ep in
    record {
      starts = subst (λ r. In r 0) (sym er) tt;
      valued = sym (ap (with_items m w v) (ap (lying p) es ∙ none_lies p (length w.places)));
      regions_sound = subst (λ r. Sub r t) (sym er) (set_inside zeros t 0 (λ k u. absurd (none_in 64 k u)) (reach_law m l w _ proper).starts);
      places_sound = subst (λ s. Sub s (gathered m w p v)) (sym es) (λ k u. absurd (none_in (length w.places) k u));
    }
