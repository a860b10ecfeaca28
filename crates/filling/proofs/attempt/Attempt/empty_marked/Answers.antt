use Rattle.std.proofs.Common.{filter, ap, ◌∙◌, rules, tests}
use Rattle.std.specs.List.{range_with_len}
use Rattle.world.specs.Worlds.{world_of, spot}
use Rattle.explore.proofs.Known.{as_many}
use Rattle.scratch.specs.Marks.{place_marks}
use Rattle.filling.specs.Steps.{fits_at}
use Rattle.filling.proofs.Passing.{own_marks}
use Rattle.filling.proofs.attempt.Attempt.empty_marked.Goals as goal

pub returns : goal.returns
returns c =
    let w = world_of c.args.self.now.world.now in
    let fits = fits_at c.args.self.now.table (place_marks c.args.places.now) in
    c.numbers_where.ensures fits (λ k b f called. search (rules, tests))
    ∙ ap (λ n. filter fits (range_with_len 0 n)) (as_many (spot c.args.self.now.world.now) c.places.result.now w.places c.places.ensures.meaning)
    ∙ own_marks w c.args.self.now.table c.args.places.now
