use Rattle.std.proofs.Common.{◌≡◌, [], length, drop}
use Rattle.inventory.specs.Meaning.{held}
use Rattle.scratch.specs.Held.{held as stacked}
use Rattle.model.specs.Rules.{pass, weighed}
use Rattle.explore.proofs.rules.answer.Given as goal

abbrev pub invariant-loop-word : goal.invariant-loop-word
invariant-loop-word g l =
    let meets = held g.I.Inventory.meaning (g.I.Inventory.value l.value) in
    (pass meets (drop l.word-index l.rule) (stacked l.waiting.stack) ≡ pass meets l.rule [])
    × (weighed (length (stacked l.waiting.stack)) (drop l.word-index l.rule) ≡ weighed 0 l.rule)
