-- The number of each refusal of a source.
use Rattle.std.specs.Prelude.{ℕ}
use Rattle.draw.specs.declared.refusal.BadSource.{BadSource}
use Rattle.draw.specs.declared.refusal.BadSource.TheVariants.{ZeroSeed, LongTape}

abbrev pub number_of : BadSource → ℕ
number_of ZeroSeed = 38
number_of LongTape = 38
