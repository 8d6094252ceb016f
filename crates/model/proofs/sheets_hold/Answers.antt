use Rattle.model.proofs.Table.{sheets_hold}
use Rattle.model.proofs.sheets_hold.Goals as goal

pub returns : goal.returns
returns c = sheets_hold
