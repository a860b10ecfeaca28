-- Rows stay sound, and stand for the same, where regions, kinds or words are added.
use Rattle.std.proofs.Common.{◌≡◌, ℕ, ◌+◌, ◌<◌, ◌≤◌, Bool, true, T, eqb, ltb, List, [], ◌∷◌, ◌++◌, map, length, take, drop, Some, None, Option, sym, refl, ap, ◌∙◌, subst, inl, inr, arith, le→leb, leb→le, length-append, length-drop}
use Rattle.std.proofs.lemmas.List.{drop-append-le, take-append-le}
use Rattle.std.proofs.lemmas.Bool.{cond-true}
use Rattle.model.specs.declared.rule_word.RuleWord.{RuleWord}
use Rattle.model.specs.declared.rule_word.RuleWord.TheVariants.{Free, Need, And, Or}
use Rattle.model.specs.Marks.{any, every}
use Rattle.model.specs.Proper.{of_kinds, names_kinds, proper_rule}
use Rattle.model.proofs.Sets.{and_both, and_from, and_map, or_left, or_right, or_cases, true_if}
use Rattle.model.proofs.Limits.{every_all, all_every, rule_facts, rule_test}
use Rattle.world.specs.declared.rows.Part.{Part}
use Rattle.world.specs.declared.rows.Gate.{Gate}
use Rattle.world.specs.declared.rows.Place.{Place}
use Rattle.world.specs.Rows.{inside, words, goal_words, gate_of, place_of, rule_sound, gate_sound, place_sound, goal_sound}

pub every_weaker : {A : Type 0} (f g : A → Bool) → ((x : A) → T (f x) → T (g x)) → (xs : List A) → T (every f xs) → T (every g xs)
every_weaker f g h xs t = all_every g (λ x. T (f x)) h xs (every_all f (λ x. T (f x)) (λ x u. u) xs t)

pub every_push : {A : Type 0} (f : A → Bool) (xs : List A) (x : A) → T (every f xs) → T (f x) → T (every f (xs ++ x ∷ []))
every_push f [] x a b = and_from (f x) true b tt
every_push f (y ∷ xs) x a b = let p = and_both (f y) (every f xs) a in and_from (f y) _ p.0 (every_push f xs x p.1 b)

any_append : {A : Type 0} (f : A → Bool) (xs ys : List A) → T (any f xs) → T (any f (xs ++ ys))
any_append f [] ys t = absurd t
any_append f (x ∷ xs) ys t = elim (or_cases (f x) (any f xs) t) [ inl a ↦ or_left (f x) _ a | inr b ↦ or_right (f x) _ (any_append f xs ys b) ]

map_same : {A B : Type 0} (f : A → Bool) (g h : A → B) → ((x : A) → T (f x) → g x ≡ h x) → (xs : List A) → T (every f xs) → map g xs ≡ map h xs
map_same f g h e [] t = refl
map_same f g h e (x ∷ xs) t = let p = and_both (f x) (every f xs) t in ap (λ y. y ∷ map g xs) (e x p.0) ∙ ap (λ l. h x ∷ l) (map_same f g h e xs p.1)

-- more regions, kinds or words than before
pub record Grows (regions : ℕ) (kinds : List ℕ) (table : List RuleWord) (regions' : ℕ) (kinds' : List ℕ) (table' : List RuleWord) : Type 0 where
  pub more_regions : regions ≤ regions'
  pub more_kinds : (code : ℕ) → T (of_kinds kinds code) → T (of_kinds kinds' code)
  pub more_words : (part : Part) → T (inside table part) → T (inside table' part) × (words table' part ≡ words table part)

-- words behind a table leave its parts as they are
pub words_kept : (table more : List RuleWord) (part : Part) → T (inside table part) → T (inside (table ++ more) part) × (words (table ++ more) part ≡ words table part)
words_kept table more part t =
    let within : part.start + part.len ≤ length table = leb→le _ _ t in
    let size = length-append table more in
    let behind = length-drop part.start table in
    let still : T (inside (table ++ more) part) = le→leb _ _ (omega arith) in (
      still,
      cond-true (inside (table ++ more) part) _ [] (true_if _ still)
          ∙ ap (take part.len) (drop-append-le part.start table more (omega arith))
          ∙ take-append-le part.len (drop part.start table) more (omega arith)
          ∙ sym (cond-true (inside table part) _ [] (true_if _ t)),
    )

pub goal_inside : (kinds : List ℕ) (table : List RuleWord) (part : Part) → T (goal_sound kinds table (Some part)) → T (inside table part)
goal_inside kinds table part t = (and_both (inside table part) _ t).0

pub region_more : (regions regions' : ℕ) (kinds : List ℕ) (table : List RuleWord) → regions ≤ regions' → Grows regions kinds table regions' kinds table
region_more regions regions' kinds table more = record { more_regions = more; more_kinds = λ code t. t; more_words = λ part t. (t, refl) }

pub kind_more : (regions : ℕ) (kinds : List ℕ) (code : ℕ) (table : List RuleWord) → Grows regions kinds table regions (kinds ++ code ∷ []) table
kind_more regions kinds code table = record { more_regions = omega arith; more_kinds = λ c t. any_append (eqb c) kinds (code ∷ []) t; more_words = λ part t. (t, refl) }

pub words_more : (regions : ℕ) (kinds : List ℕ) (table more : List RuleWord) → Grows regions kinds table regions kinds (table ++ more)
words_more regions kinds table more = record { more_regions = omega arith; more_kinds = λ code t. t; more_words = words_kept table more }

module _ {regions : ℕ} {kinds : List ℕ} {table : List RuleWord} {regions' : ℕ} {kinds' : List ℕ} {table' : List RuleWord} (g : Grows regions kinds table regions' kinds' table') where
  below : (r : ℕ) → T (ltb r regions) → T (ltb r regions')
  below r t = let h : r < regions = leb→le _ _ t in let m = g.more_regions in le→leb _ _ (omega arith)

  names : (word : RuleWord) → T (names_kinds kinds word) → T (names_kinds kinds' word)
  names Free t = t
  names (Need code amount) t = g.more_kinds code t
  names And t = t
  names Or t = t

  proper_grows : (rule : List RuleWord) → T (proper_rule kinds rule) → T (proper_rule kinds' rule)
  proper_grows rule t =
      let p = rule_facts kinds rule t in
      rule_test kinds' rule (record { short = p.short; well_formed = p.well_formed; names_known = every_all _ _ (λ w u. u) rule (every_weaker (names_kinds kinds) (names_kinds kinds') names rule (all_every _ _ (λ w u. u) rule p.names_known)) })

  pub rule_grows : (part : Part) → T (rule_sound kinds table part) → T (rule_sound kinds' table' part)
  rule_grows part t =
      let p = and_both (inside table part) _ t in
      let m = g.more_words part p.0 in
      and_from (inside table' part) _ m.0 (subst (λ (rule : List RuleWord). T (proper_rule kinds' rule)) (sym m.1) (proper_grows (words table part) p.1))

  gate_grows : (x : Gate) → T (gate_sound regions kinds table x) → T (gate_sound regions' kinds' table' x)
  gate_grows x = and_map _ _ _ _ (below x.near) (and_map _ _ _ _ (below x.far) (rule_grows x.rule))

  place_grows : (x : Place) → T (place_sound regions kinds table x) → T (place_sound regions' kinds' table' x)
  place_grows x = and_map _ _ _ _ (below x.region) (rule_grows x.rule)

  pub gates_grow : (xs : List Gate) → T (every (gate_sound regions kinds table) xs) → T (every (gate_sound regions' kinds' table') xs)
  gates_grow = every_weaker _ _ gate_grows

  pub places_grow : (xs : List Place) → T (every (place_sound regions kinds table) xs) → T (every (place_sound regions' kinds' table') xs)
  places_grow = every_weaker _ _ place_grows

  pub goal_grows : (goal : Option Part) → T (goal_sound kinds table goal) → T (goal_sound kinds' table' goal)
  goal_grows None t = tt
  goal_grows (Some part) t = rule_grows part t

  pub goal_same : (goal : Option Part) → T (goal_sound kinds table goal) → goal_words table' goal ≡ goal_words table goal
  goal_same None t = refl
  goal_same (Some part) t = (g.more_words part (and_both (inside table part) _ t).0).1

  pub gates_same : (xs : List Gate) → T (every (gate_sound regions kinds table) xs) → map (gate_of table') xs ≡ map (gate_of table) xs
  gates_same = map_same (gate_sound regions kinds table) (gate_of table') (gate_of table) (λ (x : Gate) t.
      let r = (and_both (ltb x.far regions) _ (and_both (ltb x.near regions) _ t).1).1 in
      ap (λ (rule : List RuleWord). record { near = x.near; far = x.far; rule = rule }) (g.more_words x.rule (and_both (inside table x.rule) _ r).0).1)

  pub places_same : (xs : List Place) → T (every (place_sound regions kinds table) xs) → map (place_of table') xs ≡ map (place_of table) xs
  places_same = map_same (place_sound regions kinds table) (place_of table') (place_of table) (λ (x : Place) t.
      let r = (and_both (ltb x.region regions) _ t).1 in
      ap (λ (rule : List RuleWord). record { region = x.region; rule = rule }) (g.more_words x.rule (and_both (inside table x.rule) _ r).0).1)
