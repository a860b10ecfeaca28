-- More is open with more: rules, reached regions, open places and gathered places grow with the value.
use Rattle.std.proofs.Common.{◌≡◌, ℕ, zero, suc, ◌≤◌, Bool, true, false, List, [], ◌∷◌, map, length, get_or, Some, None, sym, refl, ◌∙◌, subst, inl, inr, le_of_suc-le-suc, arith}
use lib.ListN.{length-map}
use Rattle.inventory.specs.Meaning.{Meaning, Lawful, with_codes}
use Rattle.model.specs.Marks.{at, In, Sub}
use Rattle.model.specs.Worlds.{World, with_items, widened, reached, opens, finishable}
use Rattle.model.specs.Placements.{Placement, lying, gains, round, gathered}
use Rattle.model.specs.Laws.{Extends, GatherLaw, GrowthLaws}
use Rattle.model.proofs.Sets.{and_map, or_map, any_map, sub_trans, tabulate_sub, map_sub, none_sub, iterate_sub, iterate_least, iterate_rises, iterate_settles, same_set, eq_or_above, none_some}
use Rattle.model.proofs.Reading.{rule_grows}

-- values

module _ (m : Meaning) (l : Lawful m) where
  pub below_any : (v : m.Value) → m.Below m.neutral v
  below_any v = subst (λ x. m.Below m.neutral x) (l.neutral v) (l.grows m.neutral v)

  pub join_right : (u v w : m.Value) → m.Below u v → m.Below (m.join w u) (m.join w v)
  join_right u v w b = subst (λ x. m.Below x (m.join w v)) (l.comm u w) (subst (λ x. m.Below (m.join u w) x) (l.comm v w) (l.monotone u v w b))

  pub join_below : (a b c d : m.Value) → m.Below a c → m.Below b d → m.Below (m.join a b) (m.join c d)
  join_below a b c d p q = l.transitive (m.join a b) (m.join c b) (m.join c d) (l.monotone a c b p) (join_right b d c q)

  pub codes_above : (v : m.Value) (codes : List ℕ) → m.Below v (with_codes m v codes)
  codes_above v [] = l.reflexive v
  codes_above v (c ∷ cs) = l.transitive v (m.join v (m.grain c)) _ (l.grows v (m.grain c)) (codes_above (m.join v (m.grain c)) cs)

  pub right_below : (a b : m.Value) → m.Below b (m.join a b)
  right_below a b = subst (λ x. m.Below b x) (l.comm b a) (l.grows b a)

module _ (m : Meaning) (w : World) where
  -- what some items are worth together
  abbrev pub worth : List ℕ → m.Value
  worth [] = m.neutral
  worth (i ∷ items) = m.join (m.grain (get_or w.pool i 0)) (worth items)

module _ (m : Meaning) (l : Lawful m) (w : World) where
  pub with_items_is : (v : m.Value) (items : List ℕ) → with_items m w v items ≡ m.join v (worth m w items)
  with_items_is v [] = sym (l.comm v m.neutral ∙ l.neutral v)
  with_items_is v (i ∷ items) =
      let c : m.Value = m.grain (get_or w.pool i 0) in
      with_items_is (m.join v c) items ∙ l.assoc v c (worth m w items)

  pub items_below : (u v : m.Value) (xs ys : List ℕ) → m.Below u v → m.Below (worth m w xs) (worth m w ys) → m.Below (with_items m w u xs) (with_items m w v ys)
  items_below u v xs ys h k =
      rw (with_items_is u xs, with_items_is v ys) (join_below m l u (worth m w xs) v (worth m w ys) h k)

  -- open places grow with the value

  pub widened_grow : (u v : m.Value) → m.Below u v → (s t : List Bool) → Sub s t → Sub (widened m w u s) (widened m w v t)
  unfolding widened
  widened_grow u v b s t h = tabulate_sub w.regions _ _ (λ r.
      or_map (at s r) _ (at t r) _ (h r) (any_map _ _ (λ g.
      and_map _ _ _ _ (and_map _ _ _ _ (h g.near) (λ x. x)) (rule_grows m l u v b g.rule)) w.gates))

  pub reached_grow : (u v : m.Value) → m.Below u v → Sub (reached m w u) (reached m w v)
  unfolding reached
  reached_grow u v b = iterate_sub (widened m w u) (widened m w v) (widened_grow u v b) _ _ (λ k t. t) w.regions

  pub opens_grow : (u v : m.Value) → m.Below u v → Sub (opens m w u) (opens m w v)
  unfolding opens
  opens_grow u v b = map_sub _ _ (λ q. and_map _ _ _ _ (reached_grow u v b q.region) (rule_grows m l u v b q.rule)) w.places

  -- more places hold more

  lying_none : (p : Placement) → lying p [] ≡ []
  lying_none [] = refl
  lying_none (o ∷ p) = refl

  pub lying_grow : (p : Placement) (s t : List Bool) → Sub s t → m.Below (worth m w (lying p s)) (worth m w (lying p t))
  lying_grow [] s t h = l.reflexive m.neutral
  lying_grow (o ∷ p) [] t h = below_any m l (worth m w (lying (o ∷ p) t))
  lying_grow (None ∷ p) (b ∷ s) [] h = subst (λ x. m.Below (worth m w (lying p s)) (worth m w x)) (lying_none p) (lying_grow p s [] (λ k. h (suc k)))
  lying_grow (None ∷ p) (b ∷ s) (c ∷ t) h = lying_grow p s t (λ k. h (suc k))
  lying_grow (Some i ∷ p) (false ∷ s) [] h = subst (λ x. m.Below (worth m w (lying p s)) (worth m w x)) (lying_none p) (lying_grow p s [] (λ k. h (suc k)))
  lying_grow (Some i ∷ p) (true ∷ s) [] h = absurd (h 0 tt)
  lying_grow (Some i ∷ p) (false ∷ s) (false ∷ t) h = lying_grow p s t (λ k. h (suc k))
  lying_grow (Some i ∷ p) (false ∷ s) (true ∷ t) h = l.transitive _ _ _ (lying_grow p s t (λ k. h (suc k))) (right_below m l (m.grain (get_or w.pool i 0)) (worth m w (lying p t)))
  lying_grow (Some i ∷ p) (true ∷ s) (false ∷ t) h = absurd (h 0 tt)
  lying_grow (Some i ∷ p) (true ∷ s) (true ∷ t) h = join_right m l (worth m w (lying p s)) (worth m w (lying p t)) (m.grain (get_or w.pool i 0)) (lying_grow p s t (λ k. h (suc k)))

  pub gains_grow : (p : Placement) (v : m.Value) (s t : List Bool) → Sub s t → Sub (gains m w p v s) (gains m w p v t)
  unfolding gains
  gains_grow p v s t h = opens_grow _ _ (items_below v v (lying p s) (lying p t) (l.reflexive v) (lying_grow p s t h))

  -- the laws

  pub length_opens : (v : m.Value) → length (opens m w v) ≡ length w.places
  unfolding opens
  length_opens v = length-map w.places _

  module _ (p : Placement) (v : m.Value) where
    pub round_rises : (k : ℕ) → Sub (round m w p v k) (round m w p v (suc k))
    unfolding round
    round_rises k = iterate_rises (gains m w p v) (gains_grow p v) _ (none_sub w.places _) k

    pub gathered_settles : gains m w p v (gathered m w p v) ≡ gathered m w p v
    unfolding gathered round gains
    gathered_settles = iterate_settles (gains m w p v) (gains_grow p v) (map (λ q. false) w.places) (length w.places) (length-map w.places _) (λ s. length_opens _) (none_sub w.places _)

    pub gathered_least : (s : List Bool) → Sub (gains m w p v s) s → Sub (gathered m w p v) s
    unfolding gathered round
    gathered_least s h = iterate_least (gains m w p v) (gains_grow p v) _ s (none_sub w.places s) h (length w.places)

    pub length_round : (k : ℕ) → length (round m w p v k) ≡ length w.places
    unfolding round gains
    length_round zero = length-map w.places _
    length_round (suc k) = length_opens _

    pub length_gathered : length (gathered m w p v) ≡ length w.places
    unfolding gathered
    length_gathered = length_round (length w.places)

    only_gathered : (s : List Bool) → length s ≡ length w.places → Sub (gains m w p v s) s → Sub s (gathered m w p v) → s ≡ gathered m w p v
    only_gathered s e h k = same_set s (gathered m w p v) (e ∙ sym length_gathered) k (gathered_least s h)

    pub round_gathered : (k : ℕ) → Sub (round m w p v k) (gathered m w p v)
    unfolding round
    round_gathered k = iterate_least (gains m w p v) (gains_grow p v) _ (gathered m w p v) (none_sub w.places _) (λ j t. subst (λ s. In s j) gathered_settles t) k

    stops_at : (k : ℕ) → round m w p v (suc k) ≡ round m w p v k → round m w p v k ≡ gathered m w p v
    unfolding round
    stops_at k e = only_gathered (round m w p v k) (length_round k) (λ j t. subst (λ s. In s j) e t) (round_gathered k)

    pub later_rounds : (j k : ℕ) → j ≤ k → Sub (round m w p v j) (round m w p v k)
    later_rounds j zero h = let e : 0 ≡ j = omega arith in subst (λ x. Sub (round m w p v x) (round m w p v 0)) e (λ i t. t)
    later_rounds j (suc k) h = elim (eq_or_above j (suc k) h) [
      | inl e ↦ subst (λ x. Sub (round m w p v j) (round m w p v x)) e (λ i t. t)
      | inr q ↦ sub_trans _ _ _ (later_rounds j k (le_of_suc-le-suc q)) (round_rises k)
    ]

    ends_by : (k : ℕ) → length w.places ≤ k → round m w p v k ≡ gathered m w p v
    unfolding gathered
    ends_by k h = same_set _ _ (length_round k ∙ sym length_gathered) (round_gathered k) (later_rounds (length w.places) k h)

  pub gather_law : (p : Placement) (v : m.Value) → GatherLaw m w p v
  gather_law p v = record {
    settled = gathered_settles p v;
    least = gathered_least p v;
    only = only_gathered p v;
    adds = round_rises p v;
    ends = ends_by p v;
    stops = stops_at p v;
  }

  -- more lies in the same places

  lying_extends : (p q : Placement) → Extends p q → (s : List Bool) → m.Below (worth m w (lying p s)) (worth m w (lying q s))
  lying_extends [] q h s = below_any m l (worth m w (lying q s))
  lying_extends (o ∷ p) q h [] = below_any m l (worth m w (lying q []))
  lying_extends (None ∷ p) [] h (b ∷ s) = lying_extends p [] (λ k. h (suc k)) s
  lying_extends (Some i ∷ p) [] h (b ∷ s) = none_some i (h 0 i refl)
  lying_extends (None ∷ p) (None ∷ q) h (b ∷ s) = lying_extends p q (λ k. h (suc k)) s
  lying_extends (None ∷ p) (Some j ∷ q) h (true ∷ s) = l.transitive _ _ _ (lying_extends p q (λ k. h (suc k)) s) (right_below m l (m.grain (get_or w.pool j 0)) (worth m w (lying q s)))
  lying_extends (None ∷ p) (Some j ∷ q) h (false ∷ s) = lying_extends p q (λ k. h (suc k)) s
  lying_extends (Some i ∷ p) (None ∷ q) h (b ∷ s) = none_some i (h 0 i refl)
  lying_extends (Some i ∷ p) (Some j ∷ q) h (true ∷ s) =
      let same = h 0 i refl in
      let e : i ≡ j = cc in
      subst (λ x. m.Below (worth m w (i ∷ lying p s)) (worth m w (x ∷ lying q s))) e
      (join_right m l (worth m w (lying p s)) (worth m w (lying q s)) (m.grain (get_or w.pool i 0)) (lying_extends p q (λ k. h (suc k)) s))
  lying_extends (Some i ∷ p) (Some j ∷ q) h (false ∷ s) = lying_extends p q (λ k. h (suc k)) s

  -- one placement and value gather all that another does, where they are worth as much with what lies in the places gathered
  pub gathered_below : (p q : Placement) (u v : m.Value)
      → (let g = gathered m w q v in m.Below (with_items m w u (lying p g)) (with_items m w v (lying q g)))
      → Sub (gathered m w p u) (gathered m w q v)
  unfolding gains
  gathered_below p q u v b =
      gathered_least p u (gathered m w q v)
      (subst (λ s. Sub (gains m w p u (gathered m w q v)) s) (gathered_settles q v) (opens_grow _ _ b))

  pub gathered_grow : (p q : Placement) → Extends p q → (u v : m.Value) → m.Below u v → Sub (gathered m w p u) (gathered m w q v)
  gathered_grow p q e u v b = gathered_below p q u v (items_below u v _ _ b (lying_extends p q e _))

pub length_finishable : (m : Meaning) (l : Lawful m) (w : World) → length (finishable m w) ≡ length w.places
unfolding finishable
length_finishable m l w = length_opens m l w _

pub growth_laws : (m : Meaning) → Lawful m → GrowthLaws m
growth_laws m l = record {
  items = codes_above m l;
  rules = rule_grows m l;
  regions = reached_grow m l;
  places = opens_grow m l;
  gathering = λ w p u v b. gathered_grow m l w p p (λ k i e. e) u v b;
  placing = λ w p q v e. gathered_grow m l w p q e v v (l.reflexive v);
}
