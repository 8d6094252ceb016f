use Rattle.scalar.proofs.Values.{checked_again}
use Rattle.scalar.proofs.kinds.scalars.Uint24TryFromU32.try_from.Goals as goal

pub returns-then-value : goal.returns-then-value
returns-then-value c = checked_again _
