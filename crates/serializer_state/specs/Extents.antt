-- Objects within the memory.
use Rattle.std.specs.Prelude.{ℕ, Bool, true, ◌&&◌, List, [], ◌∷◌, nat_le}
use Rattle.model.specs.State.{Object}

-- whether the tails that open objects recorded lie within n bytes
abbrev pub within : ℕ → List Object → Bool
within n [] = true
within n (◌∷◌ o os) = nat_le o.tail n && within n os

-- whether packed objects lie within n bytes
abbrev pub lying : ℕ → List Object → Bool
lying n [] = true
lying n (◌∷◌ o os) = nat_le o.head o.tail && (nat_le o.tail n && lying n os)

-- whether head and tail are in order and within n bytes
abbrev pub placeable : ℕ → ℕ → ℕ → Bool
placeable head tail n = nat_le head tail && nat_le tail n
