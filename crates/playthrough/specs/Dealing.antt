-- What dealing all of a list leaves of the source.
use Rattle.std.specs.Prelude.{ℕ, zero, suc}
use Rattle.draw.specs.Source.{Source}

-- the state after n items are dealt one by one: a draw below n, one below n - 1, and so on, to one below 1
abbrev pub after_dealing : (s : Source) → s.State → ℕ → s.State
after_dealing s x zero = x
after_dealing s x (suc n) = after_dealing s (s.after x (suc n)) n
