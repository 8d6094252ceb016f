-- Joining no flag changes nothing.
use Rattle.std.proofs.Common.{◌≡◌}
use lib.Bits.{or_zero_r}
use Rattle.cursor.specs.declared.flags.SerializeErrorFlags.{SerializeErrorFlags}
use Rattle.cursor.specs.Flags.{flags, none, joined}

pub joined_none : (f : SerializeErrorFlags) → joined f none ≡ f
joined_none f = λ i. flags (or_zero_r f.0 i)
