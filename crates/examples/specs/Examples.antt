-- The worked examples, of the definitions.
use Rattle.inventory.specs.Laws.{FiveTiers}
use Rattle.draw.specs.Xorshift.{SeedOne}
use Rattle.model.specs.Example.{WorldExamples}
use Rattle.sheet.specs.Example.{SheetExamples}

pub record Examples : Type 0 where
  -- five tiers of one code have level 4
  pub five_tiers : FiveTiers
  -- seeded with 1 and asked for 10, a source has state 1082269761 and answers 1
  pub seed_one : SeedOne
  -- what is open and gathered in the example world, and in which sphere
  pub example_world : WorldExamples
  -- the file of a placement in the example world
  pub example_sheet : SheetExamples
