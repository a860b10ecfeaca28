use Rattle.std.proofs.Common.{◌≡◌, length, sum, refl, sym, ◌∙◌, rules}
use Rattle.std.proofs.iter.runs.Sources.{sums}
use Rattle.inventory.proofs.Sums.{summed}
use Rattle.inventory.proofs.levels.Levels.total.Goals as goal

pub sum-requires-clause-fits : goal.sum-requires-clause-fits
sum-requires-clause-fits g c = search (rules, sums)

pub returns : goal.returns
returns g c =
    let rows : length c.args.self.now.level ≡ 32 = search rules in
    let e : c.sum.result ≡ sum c.args.self.now.level = search rules in
    e ∙ sym (summed g.row.TOP c.args.self.now.level rows c.args.self.now.within 32 refl)
