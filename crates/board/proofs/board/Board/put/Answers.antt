use Rattle.std.proofs.Common.{set, is_ok, Some, ap, ◌∙◌, arith}
use Rattle.sheet.specs.Changes.{unless, told}
use Rattle.board.specs.Boards.{atlas_of, board_of}
use Rattle.explore.proofs.Known.{proper_world}
use Rattle.board.proofs.Setting.{in_hand, takes}
use Rattle.board.proofs.board.Board.put.Goals as goal

pub unwrap-requires : goal.unwrap-requires
unfolding board_of atlas_of
unwrap-requires g c =
    let b = c.args.self.now in
    let p = b.layout.table in
    let held = in_hand c.args.item b.layout.hand c.requires.hand in
    let none = takes p c.args.place c.args.item (omega (arith, b.fits, c.requires.place)) c.requires.empty (omega (arith, b.hand_known c.args.item held, (proper_world b.world.now).few_items)) (b.hand_unset c.args.item held) in
    ap is_ok (c.set.ensures.answer ∙ ap (λ why. told (unless why (set p c.args.place (Some c.args.item)))) none)
