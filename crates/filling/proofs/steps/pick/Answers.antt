use Rattle.std.proofs.Common.{◌<◌, length, get_or, ap, ◌∙◌, arith, rules}
use Rattle.std.specs.List.{remove}
use Rattle.std.proofs.lemmas.List.{get_or_read}
use Rattle.filling.specs.Steps.{picked, others}
use Rattle.filling.proofs.Freshly.{put_back_as}
use Rattle.filling.proofs.steps.pick.Goals as goal

-- What the call that takes the item out leaves is found by `search`, so that it may be any call that leaves that.
pub returns-clause-back : goal.returns-clause-back
returns-clause-back g c =
    let left = c.args.left.now.items in
    let fair = g.S.DrawSource.fair.below (g.S.DrawSource.state c.args.source.now) c.len.result in
    let below : c.draw-index.result < length left = omega arith in
    search (rules, put_back_as, below)

pub returns-clause-item : goal.returns-clause-item
unfolding picked
returns-clause-item g c =
    let left = c.args.left.now.items in
    let fair = g.S.DrawSource.fair.below (g.S.DrawSource.state c.args.source.now) c.len.result in
    let index = c.draw-index.ensures.answer ∙ ap (g.S.DrawSource.draws.drawn (g.S.DrawSource.state c.args.source.now)) c.len.ensures.value in
    get_or_read left c.draw-index.result _ (omega arith) (search rules) 0 ∙ ap (λ i. get_or left i 0) index

pub returns-clause-others : goal.returns-clause-others
unfolding others
returns-clause-others g c =
    search rules ∙ ap (remove c.args.left.now.items) (c.draw-index.ensures.answer ∙ ap (g.S.DrawSource.draws.drawn (g.S.DrawSource.state c.args.source.now)) c.len.ensures.value)
