-- The items that are loose, and the numbers from one on that pass a test.
use Rattle.std.proofs.Common.{◌≡◌, ℕ, suc, ◌+◌, ◌-◌, ◌<◌, ◌≤◌, Bool, true, false, cond, not, ◌&&◌, List, [], ◌∷◌, filter, sym, ap, ◌∙◌, arith}
use Rattle.std.specs.List.{range_with_len}
use Rattle.model.specs.Boards.{Board, is_set, is_item}

abbrev pub is_loose : Board → ℕ → Bool
is_loose b i = not (is_set b.placement i) && not (is_item i b.hand)

module _ (test : ℕ → Bool) (n : ℕ) where
  -- those from i on to below n
  abbrev pub passing : ℕ → List ℕ
  passing i = filter test (range_with_len i (n - i))

  module _ (i : ℕ) (h : i < n) where
    next : passing i ≡ cond (test i) (i ∷ passing (i + 1)) (passing (i + 1))
    next = let one : n - i ≡ suc (n - (i + 1)) = omega arith in ap (λ k. filter test (range_with_len i k)) one

    pub passes : true ≡ test i → passing i ≡ i ∷ passing (i + 1)
    passes e = next ∙ ap (λ t. cond t (i ∷ passing (i + 1)) (passing (i + 1))) (sym e)

    pub fails : false ≡ test i → passing i ≡ passing (i + 1)
    fails e = next ∙ ap (λ t. cond t (i ∷ passing (i + 1)) (passing (i + 1))) (sym e)

  pub none_passes : (i : ℕ) → n ≤ i → passing i ≡ []
  none_passes i h = let none : n - i ≡ 0 = omega arith in ap (λ k. filter test (range_with_len i k)) none

  pub all_passing : passing 0 ≡ filter test (range_with_len 0 n)
  all_passing = let all : n - 0 ≡ n = omega arith in ap (λ k. filter test (range_with_len 0 k)) all
