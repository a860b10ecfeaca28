-- What the test of a world says, both ways.
use Rattle.std.proofs.Common.{◌≡◌, ℕ, ◌+◌, ◌*◌, ◌/◌, ◌%◌, ◌≤◌, Bool, ◌&&◌, T, eqb, ltb, leb, List, [], ◌∷◌, length, sym, subst, arith, le→leb, eqb→eq, ltb→lt, lt→ltb, leb→le}
use Rattle.std.specs.List.{AllByRecursion}
use Rattle.inventory.specs.declared.family.Family.{Family}
use Rattle.inventory.specs.declared.family.Family.TheVariants.{Key, Count, Tier}
use Rattle.inventory.specs.Families.{code_of}
use Rattle.model.specs.declared.rule_word.RuleWord.{RuleWord}
use Rattle.model.specs.Marks.{every}
use Rattle.model.specs.Rules.{formed}
use Rattle.model.specs.Worlds.{World, Gate, Place, new_world}
use Rattle.model.specs.Proper.{of_family, kinds_of, proper_rule, proper_gate, proper_place, limits, proper, ProperRule, ProperGate, ProperPlace, Proper}
use Rattle.model.specs.Laws.{ProperLaws}
use Rattle.model.proofs.Sets.{and_both, and_from}

infixr 20 ◌also◌
-- one fact and the rest
◌also◌ : {A B : Type 0} → A → B → A × B
a also b = (a, b)

-- a test that every element passes is a fact of every element
pub every_all : {A : Type 0} (f : A → Bool) (P : A → Type 0) → ((x : A) → T (f x) → P x) → (xs : List A) → T (every f xs) → AllByRecursion P xs
every_all f P h [] t = tt
every_all f P h (x ∷ xs) t = let b = and_both (f x) (every f xs) t in (h x b.0, every_all f P h xs b.1)

pub all_every : {A : Type 0} (f : A → Bool) (P : A → Type 0) → ((x : A) → P x → T (f x)) → (xs : List A) → AllByRecursion P xs → T (every f xs)
all_every f P h [] a = tt
all_every f P h (x ∷ xs) a = and_from (f x) (every f xs) (h x a.0) (all_every f P h xs a.1)

pub rule_facts : (kinds : List ℕ) (rule : List RuleWord) → T (proper_rule kinds rule) → ProperRule kinds rule
rule_facts kinds rule t =
    let b = and_both (leb (length rule) 32 && formed rule) _ t in
    let c = and_both (leb (length rule) 32) (formed rule) b.0 in
    record { short = leb→le _ _ c.0; well_formed = c.1; names_known = every_all _ _ (λ word u. u) rule b.1 }

pub rule_test : (kinds : List ℕ) (rule : List RuleWord) → ProperRule kinds rule → T (proper_rule kinds rule)
rule_test kinds rule p =
    and_from (leb (length rule) 32 && formed rule) _ (and_from (leb (length rule) 32) (formed rule) (le→leb _ _ p.short) p.well_formed)
    (all_every _ _ (λ word u. u) rule p.names_known)

module _ (w : World) where
  pub gate_facts : (g : Gate) → T (proper_gate w g) → ProperGate w g
  gate_facts g t =
      let b = and_both (ltb g.near w.regions && ltb g.far w.regions) _ t in
      let c = and_both (ltb g.near w.regions) (ltb g.far w.regions) b.0 in
      record { near_known = ltb→lt _ _ c.0; far_known = ltb→lt _ _ c.1; rule_proper = rule_facts w.kinds g.rule b.1 }

  pub gate_test : (g : Gate) → ProperGate w g → T (proper_gate w g)
  gate_test g p =
      and_from (ltb g.near w.regions && ltb g.far w.regions) _
      (and_from (ltb g.near w.regions) (ltb g.far w.regions) (lt→ltb _ _ p.near_known) (lt→ltb _ _ p.far_known))
      (rule_test w.kinds g.rule p.rule_proper)

  pub place_facts : (q : Place) → T (proper_place w q) → ProperPlace w q
  place_facts q t =
      let b = and_both (ltb q.region w.regions) _ t in
      record { region_known = ltb→lt _ _ b.0; rule_proper = rule_facts w.kinds q.rule b.1 }

  pub place_test : (q : Place) → ProperPlace w q → T (proper_place w q)
  place_test q p = and_from (ltb q.region w.regions) _ (lt→ltb _ _ p.region_known) (rule_test w.kinds q.rule p.rule_proper)

  -- each family has few kinds
  of_each : kinds_of w Key ≤ 32 → kinds_of w Count ≤ 32 → kinds_of w Tier ≤ 32 → (family : Family) → kinds_of w family ≤ 32
  of_each k c t Key = k
  of_each k c t Count = c
  of_each k c t Tier = t

  pub proper_facts : T (proper w) → Proper w
  unfolding proper
  proper_facts t =
      let kept = every_all (λ test. test) T (λ test u. u) (limits w) t in
      let rest = kept.1.1.1.1.1.1.1.1.1.1 in
      record {
        some_region = leb→le _ _ kept.0;
        few_regions = leb→le _ _ kept.1.0;
        few_gates = leb→le _ _ kept.1.1.0;
        few_places = leb→le _ _ kept.1.1.1.0;
        few_items = leb→le _ _ kept.1.1.1.1.0;
        small_stock = leb→le _ _ kept.1.1.1.1.1.0;
        few_kinds = leb→le _ _ kept.1.1.1.1.1.1.0;
        few_of_family = of_each (leb→le _ _ kept.1.1.1.1.1.1.1.0) (leb→le _ _ kept.1.1.1.1.1.1.1.1.0) (leb→le _ _ kept.1.1.1.1.1.1.1.1.1.0);
        few_words = leb→le _ _ rest.0;
        gates_lead = every_all _ _ gate_facts w.gates rest.1.0;
        places_lie = every_all _ _ place_facts w.places rest.1.1.0;
        goal_proper = rule_facts w.kinds w.goal rest.1.1.1.0;
        pool_known = every_all _ _ (λ code u. u) w.pool rest.1.1.1.1.0;
        stock_known = every_all _ _ (λ code u. u) w.stock rest.1.1.1.1.1.0;
      }

  pub proper_test : Proper w → T (proper w)
  unfolding proper
  proper_test p =
      all_every (λ test. test) T (λ test u. u) (limits w) (
      le→leb _ _ p.some_region also le→leb _ _ p.few_regions also le→leb _ _ p.few_gates also le→leb _ _ p.few_places
      also le→leb _ _ p.few_items also le→leb _ _ p.small_stock also le→leb _ _ p.few_kinds
      also le→leb _ _ (p.few_of_family Key) also le→leb _ _ (p.few_of_family Count) also le→leb _ _ (p.few_of_family Tier)
      also le→leb _ _ p.few_words
      also all_every _ _ gate_test w.gates p.gates_lead
      also all_every _ _ place_test w.places p.places_lie
      also rule_test w.kinds w.goal p.goal_proper
      also all_every _ _ (λ code u. u) w.pool p.pool_known
      also all_every _ _ (λ code u. u) w.stock p.stock_known
      also tt)

new_proper : T (proper new_world)
unfolding proper
new_proper = tt

-- families by their codes

of_its_family : (family : Family) (n : ℕ) → T (of_family family (code_of family n))
of_its_family Key n = let e : (2 * n) % 2 ≡ 0 = omega arith in subst (λ k. T (eqb k 0)) (sym e) tt
of_its_family Count n = let e : (4 * n + 1) % 4 ≡ 1 = omega arith in subst (λ k. T (eqb k 1)) (sym e) tt
of_its_family Tier n = let e : (4 * n + 3) % 4 ≡ 3 = omega arith in subst (λ k. T (eqb k 3)) (sym e) tt

number_of : (family : Family) (code : ℕ) → T (of_family family code) → (n : ℕ) × (code ≡ code_of family n)
number_of Key code t = (code / 2, omega (arith, eqb→eq (code % 2) 0 t))
number_of Count code t = (code / 4, omega (arith, eqb→eq (code % 4) 1 t))
number_of Tier code t = (code / 4, omega (arith, eqb→eq (code % 4) 3 t))

pub proper_laws : ProperLaws
proper_laws = record {
  keeps = λ w. (proper_facts w, proper_test w);
  new = new_proper;
  families = λ family code. (number_of family code, λ s. subst (λ c. T (of_family family c)) (sym s.1) (of_its_family family s.0));
}
