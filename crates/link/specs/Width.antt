-- The widths of an offset field, by their number of bytes.
use Rattle.std.specs.Prelude.{ℕ, cond, Some, None, Option, ◌==◌}
use Rattle.link.specs.declared.LinkWidth.{LinkWidth}
use Rattle.link.specs.declared.LinkWidth.TheVariants.{Zero, Two, Three, Four}

-- how many bytes a field has: none (a virtual link), an Offset16, an Offset24 or an Offset32
abbrev pub bytes_of_width : LinkWidth → ℕ
bytes_of_width Zero = 0
bytes_of_width Two = 2
bytes_of_width Three = 3
bytes_of_width Four = 4

-- the width of a field of n bytes, if there is one
abbrev pub width_of_length : ℕ → Option LinkWidth
width_of_length n =
    cond (n == 0) (Some Zero) (cond (n == 2) (Some Two) (cond (n == 3) (Some Three) (cond (n == 4) (Some Four) None)))
