use Rattle.std.proofs.Common.{◌≡◌, ◌≤◌, length, vec_len}
use Rattle.playthrough.specs.Dealing.{after_dealing}
use Rattle.playthrough.proofs.deal_all.Given as goal

abbrev pub invariant-loop-index : goal.invariant-loop-index
invariant-loop-index g l =
    let s = g.S.DrawSource.draws in
    (vec_len l.items ≤ vec_len l.fn.items)
    × (after_dealing s (g.S.DrawSource.state l.source) (length l.items.items) ≡ after_dealing s (g.S.DrawSource.state l.fn.source) (length l.fn.items.items))

abbrev pub decreases-loop-index : goal.decreases-loop-index
decreases-loop-index g l = vec_len l.items
