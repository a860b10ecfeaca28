use Rattle.model.specs.Boards.{goal_met}
use Rattle.board.proofs.board.makes.can_meet_goal.Goals as goal

pub returns : goal.returns
unfolding goal_met
returns g c = cc
