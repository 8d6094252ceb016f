-- What the cells of a table hold, and where a search comes to a pair.
use Rattle.std.specs.Prelude.{◌≡◌, ℕ, ◌%◌, ◌<◌, Bool, true, false, cond, ◌&&◌, List, [], ◌∷◌, length, Some, None, count_by, Option, Result, MatchResult, ◌==◌, nat_le, slice_index_or}
use Rattle.link.specs.declared.ObjIdx.{ObjIdx}
use Rattle.register.specs.Pairs.{same_pair}
use Rattle.register_table.specs.declared.cells.Entry.{Entry}
use Rattle.register_table.specs.Round.{ahead, far}

-- the pairs of the cells
abbrev pub entries : List (Option Entry) → List (ℕ × ℕ)
entries [] = []
entries (None ∷ cs) = entries cs
entries (Some e ∷ cs) = (e.hash, e.number.0) ∷ entries cs

abbrev pub full : Option Entry → Bool
full None = false
full (Some e) = true

-- whether the cell has the pair h, n
abbrev pub has : ℕ → ℕ → Option Entry → Bool
has h n None = false
has h n (Some e) = same_pair e.hash e.number.0 h n

-- how many cells are full, and how many have the pair h, n
abbrev pub filled : List (Option Entry) → ℕ
filled cs = count_by full cs

abbrev pub times : List (Option Entry) → ℕ → ℕ → ℕ
times cs h n = count_by (has h n) cs

-- no cell is free on the first t steps of a search from s
abbrev pub Open : List (Option Entry) → ℕ → ℕ → Type 0
Open cs s t = (j : ℕ) → j < t → full (slice_index_or cs (ahead (length cs) s j) None) ≡ true

-- where the search for the pair of a cell begins, and how many steps it is to the cell k
abbrev pub begin : ℕ → Option Entry → ℕ
begin n None = 0
begin n (Some e) = e.hash % n

abbrev pub way : ℕ → ℕ → Option Entry → ℕ
way n k None = 0
way n k (Some e) = far n (e.hash % n) k

-- the search for the pair of the cell k comes to it
abbrev pub Reached : List (Option Entry) → ℕ → Type 0
Reached cs k = Open cs (begin (length cs) (slice_index_or cs k None)) (way (length cs) k (slice_index_or cs k None))

-- the answer of a search: the cell of the pair, or else the free cell at which it ends
abbrev pub Sought : List (Option Entry) → ℕ → ℕ → Result ℕ ℕ → Type 0
Sought cs h n r =
    MatchResult r (λ k. (k < length cs) × (has h n (slice_index_or cs k None) ≡ true))
    (λ k. (k < length cs) × (slice_index_or cs k None ≡ None) × (times cs h n ≡ 0) × Open cs (h % length cs) (far (length cs) (h % length cs) k))

-- the lesser of two numbers
abbrev pub lesser : Option ObjIdx → ObjIdx → Option ObjIdx
lesser None n = Some n
lesser (Some b) n = cond (nat_le b.0 n.0) (Some b) (Some n)

-- the least number of the hash h from `low` on, at one entry more
abbrev pub better : ℕ → ℕ → Option ObjIdx → Entry → Option ObjIdx
better h low best e = cond (e.hash == h && nat_le low e.number.0) (lesser best e.number) best
