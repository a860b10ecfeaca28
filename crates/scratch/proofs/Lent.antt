-- What lent bytes hold while and after a call works in the first of them.
use Rattle.std.proofs.Common.{◌≡◌, ℕ, ◌+◌, ◌<◌, ◌≤◌, cond, List, ◌++◌, length, get_or, take, drop, ap, sym, ◌∙◌, arith}
use Rattle.std.proofs.lemmas.Bool.{lt-ltb, le-ltb}
use Rattle.std.proofs.lemmas.List.{drop_at, drop-drop, take-append-drop, length-take-le, length-append, append_assoc, length-drop}
use Rattle.scratch.proofs.Rows.{filled}
use Rattle.scratch.specs.Lending.{work_marks, later, wiped, after_call}

module _ (bytes : List ℕ) where
  pub untouched : length bytes < work_marks → bytes ≡ after_call bytes
  untouched few = sym (ap (λ b. cond b bytes (wiped (later bytes))) (lt-ltb (length bytes) work_marks few))

  pub zeroed : work_marks ≤ length bytes → wiped (later bytes) ≡ after_call bytes
  zeroed enough = sym (ap (λ b. cond b bytes (wiped (later bytes))) (le-ltb (length bytes) work_marks enough))

  -- the first row and what lies behind it
  pub halves : (first others : List ℕ) → first ≡ take 64 bytes → others ≡ drop 64 bytes → first ++ others ≡ bytes
  halves first others e f = simp (e, f) (take-append-drop 64 bytes)

  -- the two rows written anew, with what lay behind them
  pub kept : (regions places own : List ℕ) → work_marks ≤ length bytes → own ≡ drop 256 (drop 64 bytes) → length (regions ++ (places ++ own)) ≡ length bytes → later (regions ++ (places ++ own)) ≡ later bytes
  unfolding later
  kept regions places own enough e total =
      let same : own ≡ drop 320 bytes = e ∙ drop-drop 256 64 bytes in
      let size : length own + 320 ≡ length bytes = omega (arith, ap length same, length-drop 320 bytes) in
      let rows : length (regions ++ places) ≡ 320 = omega (arith, total, size, length-append {A = ℕ}) in
      ap (drop 320) (sym (append_assoc regions places own)) ∙ drop_at (regions ++ places) own 320 rows ∙ same

  -- a row of zeros in the place of the first bytes
  pub cleared : (row : List ℕ) → work_marks ≤ length bytes → length row ≡ length (take work_marks bytes) → ((k d : ℕ) → k < length (take work_marks bytes) → get_or row k d ≡ 0) → row ++ drop work_marks bytes ≡ after_call bytes
  unfolding later wiped
  cleared row enough size each =
      let long : length (take work_marks bytes) ≡ work_marks = length-take-le work_marks bytes enough in
      ap (λ l. l ++ drop work_marks bytes) (filled work_marks 0 row (size ∙ long) (λ k d h. each k d (omega arith))) ∙ zeroed enough
