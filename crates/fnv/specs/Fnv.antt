-- FNV-1a at 64 bits: hash = offset basis; for each byte: hash = hash xor byte, then hash = hash * FNV prime, kept to 64 bits.
use Rattle.std.specs.Prelude.{ℕ, ◌*◌, ◌%◌, ◌^◌, List, [], ◌∷◌, bit_xor}

abbrev pub offset_basis : ℕ
offset_basis = 0xcbf29ce484222325

abbrev pub fnv_prime : ℕ
fnv_prime = 0x100000001b3

-- one byte more
abbrev pub fed : ℕ → ℕ → ℕ
fed hash byte = (bit_xor hash byte * fnv_prime) % 2 ^ 64

-- the bytes fed one after another, from a hash on
abbrev pub hashed_from : ℕ → List ℕ → ℕ
hashed_from hash [] = hash
hashed_from hash (byte ∷ bytes) = hashed_from (fed hash byte) bytes

abbrev pub hashed : List ℕ → ℕ
hashed bytes = hashed_from offset_basis bytes
