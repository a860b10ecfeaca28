use Rattle.std.proofs.Common.{sym, ◌∙◌}
use Rattle.world.proofs.Tables.{words_total}
use Rattle.world.proofs.world.World.word_count.Goals as goal

pub returns : goal.returns
returns c = c.word_count.ensures ∙ sym (words_total c.args.self.now)
