use Rattle.sheet.proofs.RoundTrips.{file_laws}
use Rattle.sheet.proofs.laws.files_are_read_back.Goals as goal

pub returns : goal.returns
returns c = file_laws
