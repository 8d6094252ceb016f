-- The numbers by which a limit that is not kept is reported.
use Rattle.std.specs.Prelude.{ℕ}
use Rattle.model.specs.declared.limit.Limit.{Limit}
use Rattle.model.specs.declared.limit.Limit.TheVariants.{Memory, Register}

abbrev pub limit_number : Limit → ℕ
limit_number Memory = 1
limit_number Register = 2
