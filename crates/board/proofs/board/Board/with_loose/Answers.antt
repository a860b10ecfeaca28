use Rattle.std.proofs.Common.{◌≡◌, ◌+◌, ◌-◌, ◌<◌, filter, length, sym, ap, ◌∙◌, arith}
use Rattle.std.specs.List.{range_with_len}
use Rattle.model.specs.Worlds.{with_items}
use Rattle.model.specs.Boards.{loose}
use Rattle.board.specs.Boards.{atlas_of, board_of}
use Rattle.board.proofs.Loose.{is_loose, passing, passes, fails, none_passes}
use Rattle.board.proofs.board.Board.with_loose.Goals as goal
use Rattle.board.proofs.board.Board.with_loose.Goals.{then-is_loose, else-is_loose}

pub loop-item-init : goal.loop-item-init
unfolding loose atlas_of board_of
loop-item-init g c =
    let m = g.I.Inventory.meaning in
    let w = atlas_of c.args.self.now in
    let all : length w.pool - 0 ≡ length w.pool = omega arith in
    record {
      world = c.with_stock-player.ensures.world;
      held = ap (λ n. with_items m w (g.I.Inventory.value c.with_stock-player.result.held) (filter (is_loose (board_of c.args.self.now)) (range_with_len 0 n))) all ∙ ap (λ v. with_items m w v (loose w (board_of c.args.self.now))) c.with_stock-player.ensures.held;
    }

pub loop-item-preserved : goal.loop-item-preserved
unfolding atlas_of board_of
loop-item-preserved g c =
    let m = g.I.Inventory.meaning in
    let w = atlas_of c.args.self.now in
    let n = length w.pool in
    let i = c.loop-item.item in
    let v = g.I.Inventory.value c.loop-item.player.held in
    let test = is_loose (board_of c.args.self.now) in
    let inside : i < n = omega (arith, ap length c.pool.ensures.codes, c.loop-item-test.true) in
    let inv = c.loop-item.invariant in
    elim c.if-is_loose.branch [
      | then-is_loose x ↦
          let held = rw inv.world at x.add_item.ensures.held in
          rw x.player-is (record {
            world = x.add_item.ensures.world ∙ inv.world;
            held = ap (λ u. with_items m w u (passing test n (i + 1))) held ∙ ap (with_items m w v) (sym (passes test n i inside x.if-is_loose.ensures)) ∙ inv.held;
          })
      | else-is_loose x ↦
          rw x.player-is (record {
            world = inv.world;
            held = ap (with_items m w v) (sym (fails test n i inside x.if-is_loose.ensures)) ∙ inv.held;
          })
    ]

pub returns : goal.returns
unfolding atlas_of board_of
returns g c =
    let m = g.I.Inventory.meaning in
    let w = atlas_of c.args.self.now in
    let v = g.I.Inventory.value c.loop-item.player.held in
    let inv = c.loop-item.invariant in
    let none = none_passes (is_loose (board_of c.args.self.now)) (length w.pool) c.loop-item.item (omega (arith, ap length c.pool.ensures.codes, c.loop-item-test.false)) in
    record { world = inv.world; held = ap (with_items m w v) (sym none) ∙ inv.held }
