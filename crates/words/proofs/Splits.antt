-- Rows cut at their first separator.
use Rattle.std.proofs.Common.{◌≡◌, ℕ, ◌+◌, ◌<◌, ◌≤◌, Bool, true, cond, not, ltb, ◌==◌, ◌∷◌, ◌++◌, length, take, drop, position, Some, None, Option, sym, refl, ap, ◌∙◌, arith, length-take}
use Rattle.std.specs.List.{position_or_len}
use Rattle.std.proofs.lemmas.Grind.{common_steps}
use Rattle.std.proofs.lemmas.Bool.{eqb-true, cond-true, cond-false, lt-ltb, le-ltb}
use Rattle.std.proofs.lemmas.Bool.Decides.{nat_tests}
use Rattle.std.proofs.lemmas.List.{take_all, take_min, drop_all}
use Rattle.std.proofs.lemmas.List.Sums.{fails_before_first, passes_at_first, split_at_first, list_all-from_AllPass}
use Rattle.std.proofs.lemmas.List.Splits.{slice_split_none, slice_split_first}
use Rattle.words.specs.Spelling.{Bytes}
use Rattle.words.specs.Splitting.{front, behind, parts, lacks, Whole, Cut}

-- what stands before the first separator has none
pub front_clean : (b : ℕ) (xs : Bytes) → lacks b (front b xs) ≡ true
front_clean b xs =
    let test : ℕ → Bool = λ x. not (x == b) in
    list_all-from_AllPass test (front b xs) (λ k d h. grind (arith, common_steps, fails_before_first (λ x. x == b) xs k d))

none_within : (n m : ℕ) → ◌≡◌ {A = Option ℕ} (cond (ltb n m) (Some n) None) None → m ≤ n
none_within n m e = grind (arith, nat_tests)

pub some_within : (n m i : ℕ) → ◌≡◌ {A = Option ℕ} (cond (ltb n m) (Some n) None) (Some i) → (n < m) × (n ≡ i)
some_within n m i e = grind (arith, nat_tests)

-- a row with no separator
pub whole : (b : ℕ) (xs : Bytes) → position (λ x. x == b) xs ≡ None → Whole b xs
unfolding parts
whole b xs e =
    let at : ℕ = position_or_len (λ x. x == b) xs in
    let past : length xs ≤ at = none_within at (length xs) e in
    record {
      clean = ap (lacks b) (sym (take_all at xs past)) ∙ front_clean b xs;
      front_is = take_all at xs past;
      behind_is = drop_all (at + 1) xs (omega arith);
      parts_is = slice_split_none (λ x. x == b) xs (λ k d h. fails_before_first (λ x. x == b) xs k d (omega arith));
    }

-- a row with a separator is its front, the separator, and what stands behind it
pub front_behind : (b : ℕ) (xs : Bytes) → position_or_len (λ x. x == b) xs < length xs → xs ≡ front b xs ++ b ∷ behind b xs
front_behind b xs h =
    split_at_first (λ x. x == b) xs 0 h ∙ ap (λ x. front b xs ++ x ∷ behind b xs) (eqb-true _ b (passes_at_first (λ x. x == b) xs 0 h))

-- a row that is cut at its first separator
pub cut_at : (b i : ℕ) (xs before after : Bytes) → position (λ x. x == b) xs ≡ Some i → before ≡ take i xs → after ≡ drop (i + 1) xs → Cut b xs before after
unfolding parts
cut_at b i xs before after e f g =
    let at : ℕ = position_or_len (λ x. x == b) xs in
    let first = some_within at (length xs) i e in
    let front_is : front b xs ≡ before = ap (λ n. take n xs) first.1 ∙ sym f in
    let behind_is : behind b xs ≡ after = ap (λ n. drop (n + 1) xs) first.1 ∙ sym g in
    let same = front_behind b xs first.0 in
    let parts_are = slice_split_first (λ x. x == b) xs 0 first.0 in
    record {
      same = cc;
      clean = ap (lacks b) (sym front_is) ∙ front_clean b xs;
      front_is = front_is;
      behind_is = behind_is;
      parts_is = cc;
      size = grind (arith, common_steps);
    }

-- the same, told by the front's length
module _ (b : ℕ) (xs : Bytes) where
  abbrev at : ℕ
  at = position_or_len (λ x. x == b) xs

  pub front_take : take (length (front b xs)) xs ≡ front b xs
  front_take = ap (λ n. take n xs) (length-take at xs) ∙ take_min at xs

  pub whole_front : length xs ≤ length (front b xs) → Whole b xs
  whole_front h = whole b xs (cond-false _ _ _ (le-ltb at (length xs) (omega (arith, length-take at xs))))

  pub behind_front : length (front b xs) < length xs → xs ≡ front b xs ++ b ∷ behind b xs
  behind_front h = front_behind b xs (omega (arith, length-take at xs))

  pub cut_front : (n : ℕ) → n ≡ length (front b xs) → n < length xs → Cut b xs (take n xs) (drop (n + 1) xs)
  cut_front n e h =
      let size : at ≡ n = omega (arith, length-take at xs) in
      cut_at b n xs (take n xs) (drop (n + 1) xs) (cond-true _ _ _ (lt-ltb at (length xs) (omega arith)) ∙ ap Some size) refl refl
