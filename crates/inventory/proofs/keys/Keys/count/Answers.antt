use Rattle.std.proofs.Common.{◌≡◌, length, sym, ◌∙◌, rules}
use Rattle.std.specs.List.{count_by}
use Rattle.inventory.proofs.Sums.{counted}
use Rattle.inventory.proofs.keys.Keys.count.Goals as goal

pub returns : goal.returns
returns c =
    let rows : length c.args.self.now.has ≡ 32 = search rules in
    let e : c.count.result ≡ count_by (λ member. member) c.args.self.now.has = search rules in
    e ∙ sym (counted c.args.self.now.has 32 rows)
