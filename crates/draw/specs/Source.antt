-- What a draw source means, and when it is fair.
use Rattle.std.specs.Prelude.{◌≡◌, ℕ, ◌%◌, ◌<◌, cond, ◌==◌, refl}
use Rattle.std.proofs.Common.{subst, sym, mod-lt, arith}
use Rattle.std.proofs.lemmas.Bool.{cond-false, ne_eqb}

-- States, the answer to draw n at a state, and the state after it: both depend on the state and on n alone.
pub record Source : Type 1 where
  pub State : Type 0
  pub drawn : State → ℕ → ℕ
  pub after : State → ℕ → State

-- An answer is below n; draw 0 answers 0 and leaves the state as it was.
pub record Fair (s : Source) : Type 0 where
  pub below : (x : s.State) (n : ℕ) → 0 < n → s.drawn x n < n
  pub none_drawn : (x : s.State) → s.drawn x 0 ≡ 0
  pub none_after : (x : s.State) → s.after x 0 ≡ x

-- a source with a number for each state, which answers that number's remainder; draw 0 goes nowhere
abbrev pub modulo : {S : Type 0} → (S → ℕ) → (S → S) → Source
modulo {S = S} number next = record {
  State = S;
  drawn = λ x n. cond (n == 0) 0 (number x % n);
  after = λ x n. cond (n == 0) x (next x);
}

pub modulo_fair : {S : Type 0} (number : S → ℕ) (next : S → S) → Fair (modulo number next)
modulo_fair number next = record {
  below = λ x n p.
      let P : ℕ → Type 0 = λ a. a < n in
      subst P (sym (cond-false {A = ℕ} (n == 0) 0 (number x % n) (ne_eqb n 0 (λ e. omega arith)))) (mod-lt (number x) p);
  none_drawn = λ x. refl;
  none_after = λ x. refl;
}
