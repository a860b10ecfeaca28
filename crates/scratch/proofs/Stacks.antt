-- The first cells of a row, the last of them first.
use Rattle.std.proofs.Common.{◌≡◌, ℕ, ◌+◌, ◌<◌, ◌≤◌, List, [], ◌∷◌, reverse, length, get_or, take, set, ap, ◌∙◌, arith}
use mathlib.Core.List.{reverse-append}
use lib.ListN.{length-reverse}
use Rattle.std.proofs.lemmas.List.{take_more_set, take_more, length-take-le}
use Rattle.scratch.specs.declared.stack.Stack.{Stack}
use Rattle.scratch.specs.Held.{held, room}

module _ {X : Type 0} (cells : List X) (n : ℕ) where
  pub waiting : n ≤ length cells → length (reverse (take n cells)) ≡ n
  waiting within = length-reverse (take n cells) ∙ length-take-le n cells within

  pub pushed : (value : X) → n < length cells → reverse (take (n + 1) (set cells n value)) ≡ value ∷ reverse (take n cells)
  pushed value free = ap reverse (take_more_set cells n value free) ∙ reverse-append (take n cells) (value ∷ [])

  pub popped : (d : X) (m : ℕ) → n ≡ m + 1 → n ≤ length cells → reverse (take n cells) ≡ get_or cells m d ∷ reverse (take m cells)
  popped d m one within =
      let inside : m < length cells = omega arith in
      ap (λ k. reverse (take k cells)) one ∙ ap reverse (take_more cells m d inside) ∙ reverse-append (take m cells) _

-- no more values wait than there is room for
pub held_fits : {T : Type 0} (s : Stack T) → length (held s) ≤ room s
unfolding held room
held_fits s = omega (arith, waiting s.cells.now s.len s.within, s.within)
