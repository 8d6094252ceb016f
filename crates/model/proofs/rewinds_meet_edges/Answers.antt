use Rattle.model.proofs.Edge.{edges}
use Rattle.model.proofs.rewinds_meet_edges.Goals as goal

pub returns : goal.returns
returns c = edges
