use Rattle.model.proofs.Owning.{owning}
use Rattle.model.proofs.register_suffices.Goals as goal

pub returns : goal.returns
returns c = owning
