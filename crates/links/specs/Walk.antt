-- Chains of cells: what a chain goes through, and what holds of all chains at once.
use Rattle.std.specs.Prelude.{◌≡◌, ℕ, zero, suc, ◌+◌, ◌-◌, ◌<◌, cond, List, [], ◌∷◌, map, length, ◌==◌, nat_lt, slice_index, slice_index_or, slice_set}
use Rattle.links.specs.declared.chains.Chain.{Chain}

-- the cells from s on, n of them
abbrev pub walk : List ℕ → ℕ → ℕ → List ℕ
walk ns s zero = []
walk ns s (suc n) = s ∷ walk ns (slice_index ns s) n

-- the cell that lies n steps past s
abbrev pub hop : List ℕ → ℕ → ℕ → ℕ
hop ns s zero = s
hop ns s (suc n) = hop ns (slice_index ns s) n

-- the cells of a chain
abbrev pub nodes : List ℕ → Chain → List ℕ
nodes ns ch = walk ns ch.first ch.count

-- the chain with no cell
abbrev pub no_chain : Chain
no_chain = record { first = 0; last = 0; count = 0 }

-- the cells of each chain
abbrev pub table : List ℕ → List Chain → List (List ℕ)
table ns chs = map (nodes ns) chs

-- the last of a list, or d
abbrev pub last_of : ℕ → List ℕ → ℕ
last_of d [] = d
last_of d (x ∷ xs) = last_of x xs

-- the sum of f over a list
abbrev pub sum_of : {X : Type 0} → (X → ℕ) → List X → ℕ
sum_of f [] = 0
sum_of f (x ∷ xs) = f x + sum_of f xs

-- how often k stands in a list
abbrev pub occ : ℕ → List ℕ → ℕ
occ k [] = 0
occ k (x ∷ xs) = cond (k == x) 1 0 + occ k xs

-- each cell is in exactly one chain, once
abbrev pub Once : List ℕ → List Chain → Type 0
Once ns chs = (k : ℕ) → sum_of (occ k) (table ns chs) ≡ cond (nat_lt k (length ns)) 1 0

-- a chain's last cell is the last that it goes through
abbrev pub Ends : List ℕ → Chain → Type 0
Ends ns ch = last_of ch.last (nodes ns ch) ≡ ch.last

abbrev pub Ended : List ℕ → List Chain → Type 0
Ended ns chs = (c : ℕ) (d : Chain) → c < length chs → Ends ns (slice_index_or chs c d)

-- the chains have as many cells as there are
abbrev pub Filled : List ℕ → List Chain → Type 0
Filled ns chs = sum_of (λ ch. ch.count) chs ≡ length ns

-- a chain's cells are in the array
abbrev pub Inside : List ℕ → Chain → Type 0
Inside ns ch = (i : ℕ) → i < ch.count → hop ns ch.first i < length ns

-- the first n cells of a chain, and the rest
abbrev pub front : List ℕ → Chain → ℕ → Chain
front ns ch n = record { first = ch.first; last = hop ns ch.first (n - 1); count = n }

abbrev pub back : List ℕ → Chain → ℕ → Chain
back ns ch n = record { first = hop ns ch.first n; last = ch.last; count = ch.count - n }

-- the chain a and then b, and what the cells hold once they are linked
abbrev pub cat : Chain → Chain → Chain
cat a b = cond (a.count == 0) b (record { first = a.first; last = cond (b.count == 0) a.last b.last; count = a.count + b.count })

abbrev pub linked : List ℕ → Chain → Chain → List ℕ
linked ns a b = cond (a.count == 0) ns (slice_set ns a.last b.first)
