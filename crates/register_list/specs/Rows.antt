-- The order that the rows are kept in: by number, and under one number by hash.
use Rattle.std.specs.Prelude.{◌≡◌, ℕ, ◌<◌, ◌≤◌, Bool, true, false, ◌&&◌, ◌||◌, List, map, length, ◌==◌, nat_lt, slice_index_or}
use Rattle.register_list.specs.declared.row.Row.{Row}

-- the pair of a row
abbrev pub pair : Row → ℕ × ℕ
pair r = (r.hash, r.number.0)

abbrev pub pairs : List Row → List (ℕ × ℕ)
pairs = map pair

-- whether a stands before b
abbrev pub before : Row → Row → Bool
before a b = nat_lt a.number.0 b.number.0 || (a.number.0 == b.number.0 && nat_lt a.hash b.hash)

-- what stands past the end
abbrev pub nil : Row
nil = record { number = record { 0 = 0 }; hash = 0 }

-- each row stands before all that follow
abbrev pub Ordered : List Row → Type 0
Ordered xs = (i j : ℕ) → (i < j) × (j < length xs) → before (slice_index_or xs i nil) (slice_index_or xs j nil) ≡ true

-- the row stands at p
pub record Found (xs : List Row) (row : Row) (p : ℕ) : Type 0 where
  pub within : p < length xs
  pub here : (d : Row) → slice_index_or xs p d ≡ row

-- the row is not there, and would stand at p
pub record Missing (xs : List Row) (row : Row) (p : ℕ) : Type 0 where
  pub within : p ≤ length xs
  pub below : (k : ℕ) (d : Row) → k < p → before (slice_index_or xs k d) row ≡ true
  pub above : (k : ℕ) (d : Row) → p ≤ k → k < length xs → before row (slice_index_or xs k d) ≡ true

-- p is where the row stands, or would
pub record Place (xs : List Row) (row : Row) (p : ℕ) : Type 0 where
  pub within : p ≤ length xs
  pub below : (k : ℕ) → k < p → before (slice_index_or xs k nil) row ≡ true
  pub above : (k : ℕ) → p ≤ k → k < length xs → before (slice_index_or xs k nil) row ≡ false
