-- When the bytes from one place up to another can be copied to a third.
use Rattle.std.specs.Prelude.{ℕ, ◌-◌, Bool, ◌&&◌, List, length, nat_le}
use Rattle.scalar.specs.Place.{room}

-- the range is not reversed, and both it and where it goes lie within the memory
abbrev pub movable : List ℕ → ℕ → ℕ → ℕ → Bool
movable m from to at = nat_le from to && (nat_le to (length m) && room m at (to - from))
