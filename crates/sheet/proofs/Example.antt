-- The example's file, computed.
use Rattle.std.proofs.Common.{refl}
use Rattle.model.specs.Boards.{is_set}
use Rattle.sheet.specs.Files.{file_of, entries, loaded}
use Rattle.sheet.specs.Example.{SheetExamples}

pub sheet_examples : SheetExamples
unfolding file_of entries loaded is_set
sheet_examples = record { coins_written = refl; coins_loaded = refl }
