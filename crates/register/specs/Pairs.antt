-- What a register means: a set of pairs (hash, number) with its count and a capacity, as one value, so that equal sets are equal values.
use Rattle.std.specs.Prelude.{◌≡◌, ℕ, ◌+◌, ◌-◌, ◌<◌, ◌≤◌, Bool, true, false, cond, not, ◌&&◌, ◌||◌, List, [], ◌∷◌, length, Option, MatchOption, ◌==◌, nat_lt}
use Rattle.link.specs.declared.ObjIdx.{ObjIdx}

pub record Pairs : Type 0 where
  -- whether the pair of a hash and a number is held
  pub has : ℕ → ℕ → Bool
  pub count : ℕ
  pub capacity : ℕ

-- no pair, and room for n
abbrev pub empty : ℕ → Pairs
empty n = record { has = λ h k. false; count = 0; capacity = n }

-- whether h, n and g, m are the same pair
abbrev pub same_pair : ℕ → ℕ → ℕ → ℕ → Bool
same_pair h n g m = g == h && m == n

-- whether the pair can be entered: it is held already, or there is room
abbrev pub fits : Pairs → ℕ → ℕ → Bool
fits p h n = p.has h n || nat_lt p.count p.capacity

-- with the pair h, n, if it can be entered
abbrev pub entered : Pairs → ℕ → ℕ → Pairs
entered p h n = record { has = λ g m. p.has g m || (fits p h n && same_pair h n g m); count = p.count + cond (fits p h n && not (p.has h n)) 1 0; capacity = p.capacity }

-- without the pair h, n
abbrev pub struck : Pairs → ℕ → ℕ → Pairs
struck p h n = record { has = λ g m. p.has g m && not (same_pair h n g m); count = p.count - cond (p.has h n) 1 0; capacity = p.capacity }

-- r is the least number held under h that is not below `low`, or none
abbrev pub Next : Pairs → ℕ → ℕ → Option ObjIdx → Type 0
Next p h low r =
    MatchOption r ((m : ℕ) → low ≤ m → p.has h m ≡ false)
    (λ i. (low ≤ i.0) × (p.has h i.0 ≡ true) × ((m : ℕ) → low ≤ m → m < i.0 → p.has h m ≡ false))

-- whether the pair h, n is in a list
abbrev pub among : List (ℕ × ℕ) → ℕ → ℕ → Bool
among [] h n = false
among (◌∷◌ p ps) h n = same_pair p.0 p.1 h n || among ps h n

-- what a list of pairs means, with room for n
abbrev pub pairs_of : List (ℕ × ℕ) → ℕ → Pairs
pairs_of xs n = record { has = among xs; count = length xs; capacity = n }

-- whether no pair stands twice in a list
abbrev pub distinct : List (ℕ × ℕ) → Bool
distinct [] = true
distinct (◌∷◌ p ps) = not (among ps p.0 p.1) && distinct ps

-- the count is that of the pairs held, and within the capacity: some list without repetition has just these pairs and is as long
pub record Counted (p : Pairs) : Type 0 where
  pub listed : List (ℕ × ℕ)
  pub once : distinct listed ≡ true
  pub just : (h n : ℕ) → p.has h n ≡ among listed h n
  pub long : p.count ≡ length listed
  pub within : p.count ≤ p.capacity
