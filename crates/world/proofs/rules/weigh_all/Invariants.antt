use Rattle.std.proofs.Common.{◌≡◌, drop}
use Rattle.model.specs.Rules.{weighed}
use Rattle.world.proofs.rules.weigh_all.Given as goal

abbrev pub invariant-loop-word : goal.invariant-loop-word
invariant-loop-word l = weighed l.waiting (drop l.word-index l.rule) ≡ weighed 0 l.rule
