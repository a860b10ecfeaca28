-- The proofs of what is shown of the inventories.
use Rattle.std.proofs.Common.{◌≡◌, ℕ, zero, suc, ◌+◌, ◌*◌, ◌/◌, ◌≤◌, min, true, false, cond, eqb, ltb, replicate, sym, refl, ap, ◌∙◌, subst, inl, inr, arith}
use mathlib.Core.Path.{fun_ext}
use Rattle.std.proofs.lemmas.Bool.{lt-ltb, le-ltb, le-leb, lt-leb, eq-eqb, ne_eqb, and_left, and_right, and_from, cond-true, cond-false, cases_eq}
use Rattle.inventory.specs.declared.family.Family.{Family}
use Rattle.inventory.specs.declared.family.Family.TheVariants.{Key, Count, Tier}
use Rattle.inventory.specs.Meaning.{Meaning, with_codes, Unknown}
use Rattle.inventory.specs.Keyset.{known, keys}
use Rattle.inventory.specs.Capped.{levels, up_to, counts, tiers}
use Rattle.inventory.specs.CappedLaws.{same_levels}
use Rattle.inventory.specs.Paired.{on_left, paired}
use Rattle.inventory.specs.Barren.{barren_lawful}
use Rattle.inventory.specs.Families.{of_worlds, code_of}
use Rattle.inventory.specs.Laws.{UnknownCodes, SplitCodes, FamilyCodes, Met, FiveTiers, MeetsNothing}

keys_unknown : (code : ℕ) → 32 ≤ code → Unknown keys code
keys_unknown code h = record {
  worthless = fun_ext (λ c. and_left (known code) (eqb c code) (le-ltb code 32 h));
  unmet = λ v n. and_left (known code) _ (le-ltb code 32 h);
}

-- a code with top 0 is unknown
levels_unknown : (top : ℕ → ℕ) (code : ℕ) → top code ≡ 0 → Unknown (levels top) code
levels_unknown top code e = record {
  worthless = same_levels _ _ (λ c. elim (cases_eq c code) [
    | inl same ↦ omega (arith, ap top same)
    | inr other ↦ ap (λ n. min n (top c)) (cond-false {A = ℕ} (eqb c code) 1 0 (ne_eqb c code other))
  ]);
  unmet = λ v n. and_left (ltb 0 (top code)) _ (le-ltb 0 (top code) (omega arith));
}

above : (top code : ℕ) → 32 ≤ code → up_to top code ≡ 0
above top code h = cond-false (known code) top 0 (le-ltb code 32 h)

module _ (l r : Meaning) where
  even : (c : ℕ) → on_left (2 * c) ≡ true
  even c = eq-eqb _ 0 (omega arith)

  odd : (c : ℕ) → on_left (2 * c + 1) ≡ false
  odd c = ne_eqb _ 0 (λ e. omega arith)

  half_even : (c : ℕ) → (2 * c) / 2 ≡ c
  half_even c = omega arith

  half_odd : (c : ℕ) → (2 * c + 1) / 2 ≡ c
  half_odd c = omega arith

  split_left_grain : (c : ℕ) → (paired l r).grain (2 * c) ≡ (l.grain c, r.neutral)
  split_left_grain c = cond-true (on_left (2 * c)) _ _ (even c) ∙ ap (λ k. (l.grain k, r.neutral)) (half_even c)

  split_right_grain : (c : ℕ) → (paired l r).grain (2 * c + 1) ≡ (l.neutral, r.grain c)
  split_right_grain c = cond-false (on_left (2 * c + 1)) _ _ (odd c) ∙ ap (λ k. (l.neutral, r.grain k)) (half_odd c)

  split_left_meets : (v : (paired l r).Value) (c n : ℕ) → (paired l r).meets v (2 * c) n ≡ l.meets v.0 c n
  split_left_meets v c n = cond-true (on_left (2 * c)) _ _ (even c) ∙ ap (λ k. l.meets v.0 k n) (half_even c)

  split_right_meets : (v : (paired l r).Value) (c n : ℕ) → (paired l r).meets v (2 * c + 1) n ≡ r.meets v.1 c n
  split_right_meets v c n = cond-false (on_left (2 * c + 1)) _ _ (odd c) ∙ ap (λ k. r.meets v.1 k n) (half_odd c)

  pub split_codes : SplitCodes l r
  split_codes = record {
    left_grain = split_left_grain;
    right_grain = split_right_grain;
    left_meets = split_left_meets;
    right_meets = split_right_meets;
    left_unknown = λ c u. record {
      worthless = split_left_grain c ∙ ap (λ g. (g, r.neutral)) u.worthless;
      unmet = λ v n. split_left_meets v c n ∙ u.unmet v.0 n;
    };
    right_unknown = λ c u. record {
      worthless = split_right_grain c ∙ ap (λ g. (l.neutral, g)) u.worthless;
      unmet = λ v n. split_right_meets v c n ∙ u.unmet v.1 n;
    };
  }

-- where a kind of the right side's lies
count_code : (n : ℕ) → 4 * n + 1 ≡ 2 * (2 * n) + 1
count_code n = omega arith

tier_code : (n : ℕ) → 4 * n + 3 ≡ 2 * (2 * n + 1) + 1
tier_code n = omega arith

abbrev outer : SplitCodes keys (paired counts tiers)
outer = split_codes keys (paired counts tiers)

abbrev inner : SplitCodes counts tiers
inner = split_codes counts tiers

pub family_codes : FamilyCodes
family_codes = record {
  key = λ v n amount. outer.left_meets v n amount;
  count = λ v n amount. ap (λ k. of_worlds.meets v k amount) (count_code n) ∙ outer.right_meets v (2 * n) amount ∙ inner.left_meets v.1 n amount;
  tier = λ v n amount. ap (λ k. of_worlds.meets v k amount) (tier_code n) ∙ outer.right_meets v (2 * n + 1) amount ∙ inner.right_meets v.1 n amount;
  one_key = λ n. outer.left_grain n;
  one_count = λ n. ap (λ k. of_worlds.grain k) (count_code n) ∙ outer.right_grain (2 * n) ∙ ap (λ g. (keys.neutral, g)) (inner.left_grain n);
  one_tier = λ n. ap (λ k. of_worlds.grain k) (tier_code n) ∙ outer.right_grain (2 * n + 1) ∙ ap (λ g. (keys.neutral, g)) (inner.right_grain n);
}

counts_unknown : (code : ℕ) → 32 ≤ code → Unknown counts code
counts_unknown code h = levels_unknown (up_to 999) code (above 999 code h)

tiers_unknown : (code : ℕ) → 32 ≤ code → Unknown tiers code
tiers_unknown code h = levels_unknown (up_to 4) code (above 4 code h)

worlds_unknown : (f : Family) (n : ℕ) → 32 ≤ n → Unknown of_worlds (code_of f n)
worlds_unknown Key n h = outer.left_unknown n (keys_unknown n h)
worlds_unknown Count n h = subst (λ k. Unknown of_worlds k) (sym (count_code n)) (outer.right_unknown (2 * n) (inner.left_unknown n (counts_unknown n h)))
worlds_unknown Tier n h = subst (λ k. Unknown of_worlds k) (sym (tier_code n)) (outer.right_unknown (2 * n + 1) (inner.right_unknown n (tiers_unknown n h)))

pub unknown_codes : UnknownCodes
unknown_codes = record { to_keys = keys_unknown; to_counts = counts_unknown; to_tiers = tiers_unknown; to_worlds = worlds_unknown }

module _ (top : ℕ → ℕ) where
  -- n items of one code on top of a value
  raised_by : (v : (levels top).Value) (c n : ℕ) → (with_codes (levels top) v (replicate n c) c).0 ≡ min ((v c).0 + n) (top c)
  raised_by v c zero = omega (arith, (v c).1)
  raised_by v c (suc n) =
      let one : cond (eqb c c) 1 0 ≡ 1 = cond-true {A = ℕ} (eqb c c) 1 0 (eq-eqb c c refl) in
      raised_by ((levels top).join v ((levels top).grain c)) c n ∙ omega (arith, one, (v c).1)

  level_of : (c n : ℕ) → (with_codes (levels top) (levels top).neutral (replicate n c) c).0 ≡ min n (top c)
  level_of c n = raised_by (levels top).neutral c n ∙ omega arith

  pub met : Met top
  met = record {
    keys_met = λ c h. and_from (known c) _ (lt-ltb c 32 h) (and_from (known c) (eqb c c) (lt-ltb c 32 h) (eq-eqb c c refl));
    keys_once = λ v c n h. and_right (ltb 0 n) _ (and_right (known c) _ (and_left (eqb n 1) (v c) (ne_eqb n 1 (λ e. omega arith))));
    level = level_of;
    amounts_met = λ c n amount p q h. and_from (ltb 0 amount) _ (lt-ltb 0 amount p)
        (and_from (ltb 0 (top c)) _ (lt-ltb 0 (top c) (omega arith)) (le-leb amount _ (omega (arith, level_of c n))));
    amounts_unmet = λ v c amount h. and_right (ltb 0 amount) _ (and_right (ltb 0 (top c)) _ (lt-leb amount (v c).0 (omega (arith, (v c).1))));
  }

pub five_tiers : FiveTiers
five_tiers c h = level_of (up_to 4) c 5 ∙ ap (λ t. min 5 t) (cond-true (known c) 4 0 (lt-ltb c 32 h))

pub meets_nothing : MeetsNothing
meets_nothing = record { lawful = barren_lawful; never = λ v code n. and_right (ltb 0 n) false refl }
