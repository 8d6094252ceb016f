-- The least number held under a hash that passes a test, as one whose entry in a table is a given key: what looking for an equal object asks of a register.
use Rattle.std.specs.Prelude.{◌≡◌, ℕ, ◌<◌, Bool, true, false, List, length, Option, MatchOption, IfSome, ⊤, slice_index_or}
use Rattle.link.specs.declared.ObjIdx.{ObjIdx}
use Rattle.register.specs.Pairs.{Pairs}

-- o is the least number below n that is held under h and at which a test answers yes, or none; `answers m b` says that a
-- call of the test at m answered b
pub record LeastWhere (p : Pairs) (h n : ℕ) (answers : ObjIdx → Bool → Type 0) (o : Option ObjIdx) : Type 0 where
  pub passes : IfSome o (λ i. (i.0 < n) × (p.has h i.0 ≡ true) × answers i true)
  -- the test answers no at each number that is held before it
  pub others : (m : ObjIdx) → m.0 < n → MatchOption o ⊤ (λ i. m.0 < i.0) → p.has h m.0 ≡ true → answers m false

-- m is held under h, the table has an entry m, and it is the key
pub record Match (p : Pairs) (h : ℕ) (table : List ℕ) (key m : ℕ) : Type 0 where
  pub held : p.has h m ≡ true
  pub within : m < length table
  pub entry : slice_index_or table m 0 ≡ key

-- o is the least such number, or none
abbrev pub LeastMatch : Pairs → ℕ → List ℕ → ℕ → Option ObjIdx → Type 0
LeastMatch p h table key o =
    MatchOption o ((m : ℕ) → Match p h table key m → ⊥)
    (λ i. Match p h table key i.0 × ((m : ℕ) → m < i.0 → Match p h table key m → ⊥))
