use Rattle.promises.proofs.Sources.{sources_are_their_answers}
use Rattle.promises.proofs.sources_are_their_answers.Goals as goal

pub returns : goal.returns
returns g c = sources_are_their_answers g.I.Inventory.meaning g.S.DrawSource.draws g.S.DrawSource.fair
