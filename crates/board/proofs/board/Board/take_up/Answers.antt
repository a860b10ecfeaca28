use Rattle.std.proofs.Common.{is_ok, ◌∙◌}
use Rattle.board.proofs.Taking.{kept}
use Rattle.board.proofs.board.Board.take_up.Goals as goal

pub invariant_of-self : goal.invariant_of-self
invariant_of-self g c =
    let b = c.args.self.now in
    let same = kept b.layout.table _ (is_ok c.take_up.result) c.args.place c.take_up.ensures.placement in
    record { sound = c.take_up.ensures.sound; fits = same.0 ∙ b.fits; hand_known = b.hand_known; hand_unset = λ i e. same.1 i (b.hand_unset i e) }
