-- What holds of the stacks of slots: each slot stands on at most one of them, and one that holds no object has no links.
use Rattle.std.specs.Prelude.{◌≡◌, ℕ, ◌+◌, ◌*◌, ◌<◌, ◌≤◌, cond, List, [], ◌∷◌, length, ◌==◌, nat_lt, slice_index_or}
use Rattle.link.specs.declared.Link.{Link}
use Rattle.link.specs.declared.PoolIdx.{PoolIdx}

-- how often a slot stands on a stack
abbrev pub occ : ℕ → List PoolIdx → ℕ
occ k [] = 0
occ k (◌∷◌ x xs) = cond (k == x.0) 1 0 + occ k xs

-- no slot stands twice, and none that was never used
abbrev pub Apart : List PoolIdx → List PoolIdx → List PoolIdx → ℕ → Type 0
Apart os ps rs n = (k : ℕ) → occ k os + occ k ps + occ k rs ≤ cond (nat_lt k n) 1 0

-- how many links a slot has
abbrev pub held : List (List Link) → ℕ → ℕ
held ls k = length (slice_index_or ls (2 * k) []) + length (slice_index_or ls (2 * k + 1) [])

-- a slot that is released or was never used has no links
abbrev pub Blank : List (List Link) → List PoolIdx → ℕ → Type 0
Blank ls rs n = (k : ℕ) → 0 < occ k rs + cond (nat_lt k n) 0 1 → held ls k ≡ 0
