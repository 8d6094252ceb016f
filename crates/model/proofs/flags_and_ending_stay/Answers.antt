use Rattle.model.proofs.Standing.{standing}
use Rattle.model.proofs.flags_and_ending_stay.Goals as goal

pub returns : goal.returns
returns c = standing
