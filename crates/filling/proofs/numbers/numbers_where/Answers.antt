use Rattle.std.proofs.Common.{length, ◌++◌, filter, ap, ◌∙◌, refl, arith}
use Rattle.std.specs.List.{range_with_len}
use Rattle.std.proofs.lemmas.List.FromFn.{length-range_with_len}
use Rattle.std.proofs.lemmas.Iterator.{YieldsList-from_range}
use Rattle.std.proofs.lemmas.Iterator.Consumers.{YieldsList-at, YieldsList-from_filter}
use Rattle.std.proofs.lemmas.Iterator.Adapters.{at_most_from_yields_List, at_most_from_Filter, items_from_extend}
use Rattle.filling.proofs.Listing.{fewer_so_far, ok_unless, from_ok}
use Rattle.filling.proofs.numbers.numbers_where.Goals as goal

pub unwrap-requires : goal.unwrap-requires
unwrap-requires g c =
    let n = c.args.count in
    let range = YieldsList-at c.filter.ensures.source (YieldsList-from_range 0 n n refl (omega arith)) in
    let few = at_most_from_Filter {n = n} _ (at_most_from_yields_List range (omega (arith, length-range_with_len 0 n))) in
    ok_unless c.extend.result c.extend.ensures.one_more c.extend.ensures.full (λ more full.
    let next = fewer_so_far more.0 more.1 more.2 more.3 few more.4 more.5 in
    let size = ap length (more.6 ∙ ap (λ l. l ++ more.1) c.new-listed.ensures) in
    omega arith)

pub returns : goal.returns
returns g c = λ test answers.
    let n = c.args.count in
    let range = YieldsList-at c.filter.ensures.source (YieldsList-from_range 0 n n refl (omega arith)) in
    let road = YieldsList-from_filter _ test range c.filter.ensures.closure (λ x b q k. answers x b q k) in
    let all = items_from_extend c.extend.result c.extend.ensures.ran road in
    from_ok c.extend.result c.unwrap.result all c.unwrap.ensures ∙ ap (λ l. l ++ filter test (range_with_len 0 n)) c.new-listed.ensures
