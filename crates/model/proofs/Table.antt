-- The table of the worked sheets, by computing.
use Rattle.std.proofs.Common.{refl}
use Rattle.model.specs.Closing.{hash}
use Rattle.model.specs.Sheets.{SheetsHold}

pub sheets_hold : SheetsHold
unfolding hash
sheets_hold = record { table = refl }
