use Rattle.std.proofs.Common.{◌≡◌, drop}
use Rattle.inventory.specs.Meaning.{with_codes}
use Rattle.explore.proofs.player.add_codes.Given as goal

abbrev pub invariant-loop-code : goal.invariant-loop-code
invariant-loop-code g l =
    let m = g.I.Inventory.meaning in
    with_codes m (g.I.Inventory.value l.held) (drop l.code-index l.codes) ≡ with_codes m (g.I.Inventory.value l.initial.held) l.codes
