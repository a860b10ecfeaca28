use Rattle.std.proofs.Common.{◌≡◌, ◌+◌, ◌-◌, length}
use Rattle.std.specs.Option.{unwrap_or}
use Rattle.model.specs.Boards.{unset}
use Rattle.model.specs.Fills.{tries}
use Rattle.world.specs.Worlds.{world_of}
use Rattle.filling.specs.Filled.{idle, ending}
use Rattle.filling.proofs.fill.fill_places.Given as goal

abbrev pub invariant-items : goal.invariant-items
invariant-items g l =
    let w = world_of l.world in
    let state = g.S.DrawSource.state in
    let ending = ending g.I.Inventory.meaning w g.S.DrawSource.draws in
    record {
      table : l.table ≡ l.initial.table;
      world : l.attempt.world ≡ l.initial.attempt.world;
      goes_on : ending (state l.source) l.attempt.table l.attempt.left.items ≡ ending (state l.initial.source) l.fn.table (unset w l.fn.table);
    }

abbrev pub decreases-items : goal.decreases-items
decreases-items g l = length l.attempt.left.items

abbrev pub invariant-attempts : goal.invariant-attempts
invariant-attempts g l =
    let state = g.S.DrawSource.state in
    let tries = tries g.I.Inventory.meaning (world_of l.world) g.S.DrawSource.draws (idle l.initial.table) in
    record {
      table : l.table ≡ l.initial.table;
      goes_on : tries (l.attempts + 1 - l.nth) l.nth (state l.source) (unwrap_or l.last (record { item = 0 })).item ≡ tries l.attempts 1 (state l.initial.source) 0;
    }
