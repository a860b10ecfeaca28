-- A rule put behind the words of a draft, with its row.
use Rattle.std.proofs.Common.{◌≡◌, ℕ, ◌+◌, ◌<◌, Bool, true, false, cond, not, ◌&&◌, T, eqb, ltb, List, [], ◌∷◌, ◌++◌, map, length, take, drop, is_some, Some, None, Ok, Err, Option, sym, refl, ap, ◌∙◌, subst, ap₂, inl, inr, arith, le→leb, length-append, take_all}
use lib.ListN.{length-map}
use Rattle.std.proofs.lemmas.List.{drop_at, map_push}
use Rattle.std.proofs.lemmas.List.Sums.{sum_by_push}
use Rattle.std.proofs.lemmas.Option.{none-some}
use Rattle.std.proofs.lemmas.Bool.{cond-true, eq-eqb, not-true, false≢true, cases_lt}
use Rattle.model.specs.declared.rule_word.RuleWord.{RuleWord}
use Rattle.model.specs.Marks.{every}
use Rattle.model.specs.Proper.{proper_rule}
use Rattle.model.specs.Worlds.{World as Atlas, Gate as Gateway, Place as Spot}
use Rattle.model.proofs.Sets.{and_both, and_from, true_if}
use Rattle.world.specs.declared.rows.Part.{Part}
use Rattle.world.specs.declared.rows.Gate.{Gate}
use Rattle.world.specs.declared.rows.Place.{Place}
use Rattle.world.specs.declared.draft.Draft.{Draft}
use Rattle.world.specs.declared.refusal.BuildRefusal.{BuildRefusal}
use Rattle.world.specs.declared.refusal.BuildRefusal.TheVariants.{NoRegion}
use Rattle.world.specs.Building.{told, rule_refusal, gate_refusal, place_refusal, goal_refusal, region_due, with_gate, with_place, with_goal}
use Rattle.world.specs.Listed.{listed}
use Rattle.world.specs.Rows.{inside, words, goal_words, goal_size, gate_of, place_of, atlas, rule_sound, gate_sound, place_sound, goal_sound, words_of}
use Rattle.world.specs.Worlds.{regions_of, draft_of}
use Rattle.world.proofs.Growing.{Grows, words_more, gates_grow, places_grow, goal_grows, goal_same, gates_same, places_same}
use Rattle.world.proofs.Tables.{draft_words, goal_unset}
use Rattle.world.proofs.Making.{Taken, rule_taken}

-- a goal has no words until it is set
pub goal_told : (d : Draft) → eqb (length (draft_of d).goal) 0 ≡ not (is_some d.goal)
unfolding draft_of
goal_told d = goal_unset (listed d.kinds) (listed d.words) d.goal d.goal_kept

-- a goal whose rule is refused, and one whose rule is not
due_after_err : (w : Atlas) (o : Option BuildRefusal) (why : BuildRefusal) → told o ≡ Err why → told (region_due w o) ≡ Err why
due_after_err w (Some other) why e = e
due_after_err w None why e = cc

due_after_ok : (w : Atlas) (o : Option BuildRefusal) → told o ≡ Ok tt → told (region_due w o) ≡ told (cond (eqb w.regions 0) (Some NoRegion) None)
due_after_ok w (Some why) e = cc
due_after_ok w None e = refl

-- what a call decides, by the tables and by the world that they stand for
module _ (d : Draft) (rule : List RuleWord) where
  pub gate_decided : (near far n : ℕ) → n ≡ length (listed d.gates) → (ltb near (regions_of d) && ltb far (regions_of d)) ≡ true
      → rule_refusal (listed d.kinds) (length (listed d.words)) (ltb n 256) rule ≡ gate_refusal (draft_of d) near far rule
  unfolding draft_of
  gate_decided near far n e t =
      ap₂ (λ (k m : ℕ). rule_refusal (listed d.kinds) k (ltb m 256) rule) (sym (draft_words d)) (e ∙ sym (length-map (listed d.gates) (gate_of (listed d.words))))
      ∙ sym (cond-true (ltb near (regions_of d) && ltb far (regions_of d)) _ _ t)

  pub place_decided : (region n : ℕ) → n ≡ length (listed d.places) → region < (regions_of d)
      → rule_refusal (listed d.kinds) (length (listed d.words)) (ltb n 256) rule ≡ place_refusal (draft_of d) region rule
  unfolding draft_of
  place_decided region n e h =
      ap₂ (λ (k m : ℕ). rule_refusal (listed d.kinds) k (ltb m 256) rule) (sym (draft_words d)) (e ∙ sym (length-map (listed d.places) (place_of (listed d.words))))
      ∙ sym (cond-true (ltb region (regions_of d)) _ _ (true_if _ (le→leb _ _ h)))

  pub goal_decided : is_some d.goal ≡ false
      → region_due (draft_of d) (rule_refusal (listed d.kinds) (length (listed d.words)) true rule) ≡ goal_refusal (draft_of d) rule
  unfolding draft_of
  goal_decided e =
      ap (λ (k : ℕ). region_due (draft_of d) (rule_refusal (listed d.kinds) k true rule)) (sym (draft_words d))
      ∙ sym (cond-true (eqb (length (draft_of d).goal) 0) _ _ (goal_told d ∙ ap not e))

  -- a goal is refused as its rule is, and else for want of a region
  pub goal_refused : (why : BuildRefusal) → is_some d.goal ≡ false → told (rule_refusal (listed d.kinds) (length (listed d.words)) true rule) ≡ Err why → told (goal_refusal (draft_of d) rule) ≡ Err why
  goal_refused why e t = ap told (sym (goal_decided e)) ∙ due_after_err (draft_of d) _ why t

  pub goal_due : is_some d.goal ≡ false → told (rule_refusal (listed d.kinds) (length (listed d.words)) true rule) ≡ Ok tt
      → told (goal_refusal (draft_of d) rule) ≡ told (cond (eqb (regions_of d) 0) (Some NoRegion) None)
  unfolding draft_of
  goal_due e t = ap told (sym (goal_decided e)) ∙ due_after_ok (draft_of d) _ t

-- what is known of a gate, a place and a goal that are not refused
due_cases : (b : Bool) (o : Option BuildRefusal) (why : BuildRefusal) → None ≡ cond b o (Some why) → T b × (None ≡ o)
due_cases true o why e = (tt, e)
due_cases false o why e = absurd (none-some why e)

region_cases : (d : Draft) (o : Option BuildRefusal) → None ≡ region_due (draft_of d) o → (None ≡ o) × (0 < (regions_of d))
unfolding draft_of
region_cases d (Some why) e = absurd (none-some why e)
region_cases d None e = (refl, elim (cases_lt 0 (regions_of d)) [ inl h ↦ h | inr h ↦ absurd (none-some _ (e ∙ cond-true (eqb (regions_of d) 0) _ _ (eq-eqb (regions_of d) 0 (omega arith)))) ])

module _ (d : Draft) (rule : List RuleWord) where
  pub gate_taken : (near far : ℕ) → None ≡ gate_refusal (draft_of d) near far rule
      → (T (ltb near (regions_of d)) × T (ltb far (regions_of d))) × Taken (listed d.kinds) (length (listed d.words)) (ltb (length (listed d.gates)) 256) rule
  unfolding draft_of
  gate_taken near far e =
      let p = due_cases (ltb near (regions_of d) && ltb far (regions_of d)) _ _ e in
      (and_both (ltb near (regions_of d)) _ p.0, rule_taken _ _ _ rule (p.1 ∙ sym (ap₂ (λ (k m : ℕ). rule_refusal (listed d.kinds) k (ltb m 256) rule) (sym (draft_words d)) (sym (length-map (listed d.gates) (gate_of (listed d.words)))))))

  pub place_taken : (region : ℕ) → None ≡ place_refusal (draft_of d) region rule
      → T (ltb region (regions_of d)) × Taken (listed d.kinds) (length (listed d.words)) (ltb (length (listed d.places)) 256) rule
  unfolding draft_of
  place_taken region e =
      let p = due_cases (ltb region (regions_of d)) _ _ e in
      (p.0, rule_taken _ _ _ rule (p.1 ∙ sym (ap₂ (λ (k m : ℕ). rule_refusal (listed d.kinds) k (ltb m 256) rule) (sym (draft_words d)) (sym (length-map (listed d.places) (place_of (listed d.words)))))))

  pub goal_taken : None ≡ goal_refusal (draft_of d) rule → (is_some d.goal ≡ false) × Taken (listed d.kinds) (length (listed d.words)) true rule × (0 < (regions_of d))
  goal_taken e =
      let p = due_cases (eqb (length (draft_of d).goal) 0) _ _ e in
      let unset : is_some d.goal ≡ false = not-true _ (sym (goal_told d) ∙ true_if _ p.0) in
      let q = region_cases d _ (e ∙ sym (goal_decided d rule unset)) in
      (unset, rule_taken _ _ _ rule q.0, q.1)

unset_size : (goal : Option Part) → is_some goal ≡ false → goal_size goal ≡ 0
unset_size None e = refl
unset_size (Some part) e = absurd (false≢true (sym e))

-- the part that a rule has behind the words of a table
pub record Behind (before rule : List RuleWord) (part : Part) (table : List RuleWord) : Type 0 where
  pub start : part.start ≡ length before
  pub len : part.len ≡ length rule
  pub words : table ≡ before ++ rule

module _ {before rule : List RuleWord} {part : Part} {table : List RuleWord} (p : Behind before rule part table) where
  part_inside : T (inside table part)
  part_inside = let s = p.start in let l = p.len in let n = ap length p.words ∙ length-append before rule in le→leb _ _ (omega arith)

  pub part_words : words table part ≡ rule
  part_words =
      cond-true (inside table part) _ [] (true_if _ part_inside)
      ∙ ap (λ (ws : List RuleWord). take part.len (drop part.start ws)) p.words
      ∙ ap₂ (λ (n k : ℕ). take n (drop k (before ++ rule))) p.len p.start
      ∙ ap (take (length rule)) (drop_at before rule (length before) refl)
      ∙ take_all (length rule) rule (omega arith)

  pub part_sound : (kinds : List ℕ) → T (proper_rule kinds rule) → T (rule_sound kinds table part)
  part_sound kinds t = and_from (inside table part) _ part_inside (subst (λ (r : List RuleWord). T (proper_rule kinds r)) (sym part_words) t)

module _ (d : Draft) {rule : List RuleWord} {part : Part} {table : List RuleWord} (p : Behind (listed d.words) rule part table) where
  growth : Grows (regions_of d) (listed d.kinds) (listed d.words) (regions_of d) (listed d.kinds) table
  growth = subst (λ (ws : List RuleWord). Grows (regions_of d) (listed d.kinds) (listed d.words) (regions_of d) (listed d.kinds) ws) (sym p.words) (words_more (regions_of d) (listed d.kinds) (listed d.words) rule)

  size : length table ≡ length (listed d.words) + part.len
  size = let l = p.len in let n = ap length p.words ∙ length-append (listed d.words) rule in omega arith

  gates_before : map (gate_of table) (listed d.gates) ≡ map (gate_of (listed d.words)) (listed d.gates)
  gates_before = gates_same growth (listed d.gates) d.gates_lead

  places_before : map (place_of table) (listed d.places) ≡ map (place_of (listed d.words)) (listed d.places)
  places_before = places_same growth (listed d.places) d.places_lie

  goal_before : goal_words table d.goal ≡ goal_words (listed d.words) d.goal
  goal_before = goal_same growth d.goal d.goal_kept

  pub gate_added : (near far : ℕ) (earlier : Option ℕ) (g : Gate) → g ≡ record { near = near; far = far; rule = part; earlier = earlier } → {gates : List Gate} → gates ≡ listed d.gates ++ g ∷ []
      → atlas (regions_of d) (listed d.kinds) gates (listed d.places) table (listed d.pool) (listed d.stock) d.goal
      ≡ with_gate (draft_of d) (record { near = near; far = far; rule = rule })
  unfolding draft_of
  gate_added near far earlier g e {gates} eg =
      let row : gate_of table g ≡ record { near = near; far = far; rule = rule } =
      ap (gate_of table) e ∙ ap (λ (r : List RuleWord). record { near = near; far = far; rule = r }) (part_words p) in
      let rows : map (gate_of table) gates ≡ map (gate_of (listed d.words)) (listed d.gates) ++ record { near = near; far = far; rule = rule } ∷ [] =
      ap (map (gate_of table)) eg ∙ map_push (gate_of table) (listed d.gates) g ∙ ap₂ (λ (xs : List Gateway) (x : Gateway). xs ++ x ∷ []) gates_before row in
      λ i. record {
        regions = regions_of d;
        kinds = listed d.kinds;
        gates = rows i;
        places = places_before i;
        pool = listed d.pool;
        stock = listed d.stock;
        goal = goal_before i;
      }

  pub place_added : (region : ℕ) (q : Place) → q ≡ record { region = region; rule = part } → {places : List Place} → places ≡ listed d.places ++ q ∷ []
      → atlas (regions_of d) (listed d.kinds) (listed d.gates) places table (listed d.pool) (listed d.stock) d.goal
      ≡ with_place (draft_of d) (record { region = region; rule = rule })
  unfolding draft_of
  place_added region q e {places} eq =
      let row : place_of table q ≡ record { region = region; rule = rule } =
      ap (place_of table) e ∙ ap (λ (r : List RuleWord). record { region = region; rule = r }) (part_words p) in
      let rows : map (place_of table) places ≡ map (place_of (listed d.words)) (listed d.places) ++ record { region = region; rule = rule } ∷ [] =
      ap (map (place_of table)) eq ∙ map_push (place_of table) (listed d.places) q ∙ ap₂ (λ (xs : List Spot) (x : Spot). xs ++ x ∷ []) places_before row in
      λ i. record {
        regions = regions_of d;
        kinds = listed d.kinds;
        gates = gates_before i;
        places = rows i;
        pool = listed d.pool;
        stock = listed d.stock;
        goal = goal_before i;
      }

  pub goal_added : atlas (regions_of d) (listed d.kinds) (listed d.gates) (listed d.places) table (listed d.pool) (listed d.stock) (Some part) ≡ with_goal (draft_of d) rule
  unfolding draft_of
  goal_added =
      let goal = part_words p in
      λ i. record {
        regions = regions_of d;
        kinds = listed d.kinds;
        gates = gates_before i;
        places = places_before i;
        pool = listed d.pool;
        stock = listed d.stock;
        goal = goal i;
      }

  -- the invariant, row by row
  pub gates_lead : T (every (gate_sound (regions_of d) (listed d.kinds) table) (listed d.gates))
  gates_lead = gates_grow growth (listed d.gates) d.gates_lead

  pub places_lie : T (every (place_sound (regions_of d) (listed d.kinds) table) (listed d.places))
  places_lie = places_grow growth (listed d.places) d.places_lie

  pub goal_kept : T (goal_sound (listed d.kinds) table d.goal)
  goal_kept = goal_grows growth d.goal d.goal_kept

  pub counted_with_gate : (g : Gate) → g.rule.len ≡ part.len → words_of (listed d.gates ++ g ∷ []) (listed d.places) d.goal ≡ length table
  counted_with_gate g e =
      let n = sum_by_push (λ (x : Gate). x.rule.len) (listed d.gates) g in
      let k = size in
      omega (arith, d.counted)

  pub counted_with_place : (q : Place) → q.rule.len ≡ part.len → words_of (listed d.gates) (listed d.places ++ q ∷ []) d.goal ≡ length table
  counted_with_place q e =
      let n = sum_by_push (λ (x : Place). x.rule.len) (listed d.places) q in
      let k = size in
      omega (arith, d.counted)

  pub counted_with_goal : is_some d.goal ≡ false → words_of (listed d.gates) (listed d.places) (Some part) ≡ length table
  counted_with_goal e =
      let none = unset_size d.goal e in
      let k = size in
      omega (arith, d.counted)

-- a goal that is a proper rule is sound, whatever its length
pub sound_goal : (kinds : List ℕ) (table : List RuleWord) (part : Part) → T (rule_sound kinds table part) → T (goal_sound kinds table (Some part))
sound_goal kinds table part t = t
