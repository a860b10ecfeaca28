use Rattle.std.proofs.Common.{ℕ, length, sym, refl, ap, ◌∙◌}
use Rattle.model.specs.Boards.{set_at}
use Rattle.board.specs.Boards.{atlas_of, board_of}
use Rattle.board.specs.Tokens.{refusal_of}
use Rattle.board.proofs.Setting.{kept}
use Rattle.board.proofs.board.Board.set.Goals as goal

pub returns-in-Err-clause-board : goal.returns-in-Err-clause-board
returns-in-Err-clause-board g c =
    let b = board_of c.args.self.now in
    let set_to = λ (item : ℕ). set_at g.I.Inventory.meaning (atlas_of c.args.self.now) b item c.args.place (length c.args.marks.now) in
    (sym (kept b (set_to c.args.token.item) c.in-Err.why (c.in-Err.ensures.answer ∙ ap (λ (item : ℕ). refusal_of (set_to item)) c.item-item.ensures)), refl)
