use Rattle.std.proofs.Common.{rules}
use Rattle.scalar.proofs.Values.{four_bytes}
use Rattle.scalar.proofs.kinds.scalars.TagScalar.raw.Goals as goal

pub returns-clause-fits : goal.returns-clause-fits
returns-clause-fits c = four_bytes _ (search rules) (λ i. search rules)
