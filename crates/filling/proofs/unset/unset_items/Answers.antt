use Rattle.std.proofs.Common.{not, List, ℕ, filter, length, ap, ◌∙◌, rules, tests}
use Rattle.std.specs.List.{range_with_len}
use Rattle.model.specs.Boards.{is_set, unset}
use Rattle.filling.proofs.unset.unset_items.Goals as goal

pub returns : goal.returns
unfolding unset
returns c =
    let p = c.args.table.now in
    c.numbers_where.ensures (λ i. not (is_set p i)) (λ k b f called. search (rules, tests))
    ∙ ap (λ (pool : List ℕ). filter (λ i. not (is_set p i)) (range_with_len 0 (length pool))) c.pool.ensures.codes
