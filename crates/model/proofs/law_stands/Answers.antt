use Rattle.model.proofs.Whole.{law_stands}
use Rattle.model.proofs.law_stands.Goals as goal

pub returns : goal.returns
returns c = law_stands
