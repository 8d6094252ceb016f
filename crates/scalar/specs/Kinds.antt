-- The kinds that are structs: a number of three bytes by its value, and a tag by its bytes.
use Rattle.std.specs.Prelude.{ℕ, ◌%◌, ◌^◌, List, cond, Ok, Err, Result, nat_lt}
use Rattle.std.proofs.Common.{mod-lt, lit<}
use Rattle.scalar.specs.declared.kinds.Tag.{Tag}
use Rattle.scalar.specs.declared.kinds.Uint24.{Uint24}
use Rattle.scalar.specs.declared.kinds.Uint24Overflow.{Uint24Overflow}

-- the number that it holds
abbrev pub value_of : Uint24 → ℕ
value_of x = x.value

-- the part of n that three bytes hold: n itself, if it is below 256 ^ 3
abbrev pub uint24 : ℕ → Uint24
uint24 n = record { value = n % 256 ^ 3; small = mod-lt n (lit< tt) }

-- n, if three bytes hold it, or that they do not
abbrev pub checked : ℕ → Result Uint24 Uint24Overflow
checked n = cond (nat_lt n (256 ^ 3)) (Ok (uint24 n)) (Err (record { 0 = n }))

-- the bytes of a tag, in their order
abbrev pub tag_bytes : Tag → List ℕ
tag_bytes t = t.0

-- the tag that bytes are
abbrev pub tag : List ℕ → Tag
tag bs = record { 0 = bs }
