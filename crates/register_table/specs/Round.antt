-- The n cells of a table in a round: the first follows the last.
use Rattle.std.specs.Prelude.{ℕ, ◌+◌, ◌-◌, cond, nat_lt}

-- the cell that is t steps ahead of s
abbrev pub ahead : ℕ → ℕ → ℕ → ℕ
ahead n s t = cond (nat_lt (s + t) n) (s + t) (s + t - n)

-- how many steps it is from s on to k
abbrev pub far : ℕ → ℕ → ℕ → ℕ
far n s k = cond (nat_lt k s) (k + n - s) (k - s)
