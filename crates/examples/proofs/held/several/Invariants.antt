use Rattle.std.proofs.Common.{◌≡◌, replicate}
use Rattle.inventory.specs.Meaning.{with_codes}
use Rattle.examples.proofs.held.several.Given as goal

abbrev pub invariant-loop : goal.invariant-loop
invariant-loop g l = let m = g.I.Inventory.meaning in g.I.Inventory.value l.held ≡ with_codes m m.neutral (replicate l.counter l.code)
