use Rattle.std.proofs.Common.{◌≡◌, length}
use Rattle.model.specs.Worlds.{stocked, with_items}
use Rattle.model.specs.Boards.{loose}
use Rattle.board.specs.Boards.{atlas_of, board_of}
use Rattle.board.proofs.Loose.{is_loose, passing}
use Rattle.board.proofs.board.Board.with_loose.Given as goal

abbrev pub invariant-loop-item : goal.invariant-loop-item
invariant-loop-item g l =
    let m = g.I.Inventory.meaning in
    let w = atlas_of l.self in
    let b = board_of l.self in
    record {
      world : l.player.world ≡ l.self.world;
      held : with_items m w (g.I.Inventory.value l.player.held) (passing (is_loose b) (length w.pool) l.item) ≡ with_items m w (stocked m w) (loose w b);
    }
