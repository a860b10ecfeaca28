use Rattle.std.proofs.Common.{rules}
use Rattle.words.specs.Saying.{class}
use Rattle.words.proofs.word.word_of.Goals as goal

pub returns-in_default-2-clause-says : goal.returns-in_default-2-clause-says
unfolding class
returns-in_default-2-clause-says c = search rules
