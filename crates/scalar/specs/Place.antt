-- Bytes at a place of a memory, and in a raw array of four.
use Rattle.std.specs.Prelude.{ℕ, ◌+◌, ◌-◌, Bool, cond, List, ◌++◌, length, take, drop, replicate, Some, None, Option, nat_le}

-- whether w bytes from a place on lie within the memory
abbrev pub room : List ℕ → ℕ → ℕ → Bool
room m at w = nat_le (at + w) (length m)

-- the memory with bytes written over it from a place on
abbrev pub write : List ℕ → ℕ → List ℕ → List ℕ
write m at bs = take at m ++ bs ++ drop (at + length bs) m

-- the bytes of a memory from one place up to another
abbrev pub part : List ℕ → ℕ → ℕ → List ℕ
part m from to = take (to - from) (drop from m)

-- what the w bytes from a place on stand for, if they lie within the memory
abbrev pub read : {S : Type 0} → (List ℕ → S) → ℕ → List ℕ → ℕ → Option S
read reads w m at = cond (room m at w) (Some (reads (part m at (at + w)))) None

-- at most four bytes as an array of four: they stand first, and zeros after them
abbrev pub in_four : List ℕ → List ℕ
in_four bs = bs ++ replicate (4 - length bs) 0
