use Rattle.std.proofs.Common.{length, sym, ap, ◌∙◌}
use Rattle.model.specs.Boards.{Board as Model, set_at, put_back, left_by}
use Rattle.board.specs.declared.token.Token.{Token}
use Rattle.board.specs.Boards.{atlas_of, board_of}
use Rattle.board.specs.Uses.{or_back}
use Rattle.board.proofs.Setting.{given_back}
use Rattle.board.proofs.uses.set_or_back.Goals as goal

pub returns-in-Err-clause-board : goal.returns-in-Err-clause-board
returns-in-Err-clause-board g c =
    let b = board_of c.args.board.now in
    let t = c.args.token in
    let is = given_back t (set_at g.I.Inventory.meaning (atlas_of c.args.board.now) b t.item c.args.place (length c.args.marks.now)) _ c.in-Err.ensures.answer in
    let kept = c.in-Err.ensures.board.0 ∙ ap (left_by b) is.0 in (
      c.back.ensures.board.0
          ∙ ap (λ (x : Model). left_by x (put_back x c.in-Err.field-0.token.item)) kept
          ∙ ap (λ (x : Token). left_by b (put_back b x.item)) is.1
          ∙ sym (ap (or_back b t.item) is.0),
      c.back.ensures.board.1 ∙ c.in-Err.ensures.board.1,
    )
