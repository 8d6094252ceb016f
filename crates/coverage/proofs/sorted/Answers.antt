use Rattle.coverage.proofs.Order.{sorted_same}
use Rattle.coverage.proofs.sorted.Goals as goal

pub returns-clause-same : goal.returns-clause-same
returns-clause-same c = sorted_same _ _ c.sort_unstable.ensures.permutation
