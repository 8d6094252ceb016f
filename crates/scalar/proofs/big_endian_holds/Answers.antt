use Rattle.scalar.proofs.BigEndian.{notation}
use Rattle.scalar.proofs.big_endian_holds.Goals as goal

pub returns : goal.returns
returns c = notation
