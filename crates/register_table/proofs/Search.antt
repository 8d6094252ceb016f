-- A search from the cell s, which goes on to the next cell while it meets full ones.
use Rattle.std.proofs.Common.{◌≡◌, ℕ, ◌+◌, ◌-◌, ◌%◌, ◌<◌, true, false, List, length, get_or, sym, refl, ap, ◌∙◌, inl, inr, mod-lt, arith, Option, Some, None}
use Rattle.std.proofs.lemmas.Bool.{cases_lt, cases_order, cases_Bool, both_ways}
use Rattle.register.proofs.Listed.{is_equal}
use Rattle.register_table.specs.declared.cells.Entry.{Entry}
use Rattle.register_table.specs.declared.TableRegister.{TableRegister}
use Rattle.register_table.specs.Round.{ahead, far}
use Rattle.register_table.specs.Cells.{full, has, filled, times, begin, way, Open, Reached}
use Rattle.register_table.proofs.Round.{far_less, ahead_far, far_following, following_less}
use Rattle.register_table.proofs.Tally.{count_all, count_none}

-- `Open` and `Reached` at n cells, however that is known
abbrev pub OpenOf : ℕ → List (Option Entry) → ℕ → ℕ → Type 0
OpenOf n cs s t = (j : ℕ) → j < t → full (get_or cs (ahead n s j) None) ≡ true

abbrev pub ReachedOf : ℕ → List (Option Entry) → ℕ → Type 0
ReachedOf n cs k = OpenOf n cs (begin n (get_or cs k None)) (way n k (get_or cs k None))

-- the table's own facts leave a cell free
pub some_free : (t : TableRegister) → filled t.cells.items < length t.cells.items
some_free t = omega (arith, t.counted, t.within, t.larger)

pub home_less : (cs : List (Option Entry)) (h : ℕ) → filled cs < length cs → h % length cs < length cs
home_less cs h some = mod-lt h (omega arith)

-- what holds of each cell on the first t steps
abbrev pub Passed : List (Option Entry) → ℕ → ℕ → (Option Entry → Type 0) → Type 0
Passed cs s t P = (j : ℕ) → j < t → P (get_or cs (ahead (length cs) s j) None)

-- the cell has not the pair h, n
abbrev pub Lacks : ℕ → ℕ → Option Entry → Type 0
Lacks h n c = has h n c ≡ false

-- a search from s that stands before the cell k, and met full cells of which P holds
abbrev pub Walked : List (Option Entry) → ℕ → ℕ → (Option Entry → Type 0) → Type 0
Walked cs s k P = (k < length cs) × Open cs s (far (length cs) s k) × Passed cs s (far (length cs) s k) P

module _ (cs : List (Option Entry)) (s k : ℕ) (sl : s < length cs) (kl : k < length cs) (some : filled cs < length cs) (o : Open cs s (far (length cs) s k)) (f : full (get_or cs k None) ≡ true) where
  -- some cell is free, so that the round is not done at a full one
  pub far_more : far (length cs) s (ahead (length cs) k 1) ≡ far (length cs) s k + 1
  far_more = elim (cases_lt (far (length cs) s k + 1) (length cs)) [
    | inl l ↦ far_following (length cs) s k sl kl l
    | inr l ↦
        let all : (j : ℕ) → j < length cs → full (get_or cs j None) ≡ true = λ j jl.
        let d = far_less (length cs) s j sl jl in
        let back = ahead_far (length cs) s j sl jl in
        elim (cases_lt (far (length cs) s j) (far (length cs) s k)) [
          | inl b ↦ ap (λ q. full (get_or cs q None)) (sym back) ∙ o (far (length cs) s j) b
          | inr b ↦
              let e : far (length cs) s j ≡ far (length cs) s k = omega arith in
              ap (λ q. full (get_or cs q None)) (sym back ∙ ap (ahead (length cs) s) e ∙ ahead_far (length cs) s k sl kl) ∙ f
        ] in
        absurd (omega (arith, count_all full cs all))
  ]

  passed_more : (P : Option Entry → Type 0) → Passed cs s (far (length cs) s k) P → P (get_or cs k None) → Passed cs s (far (length cs) s (ahead (length cs) k 1)) P
  passed_more P p here = λ j jl. elim (cases_lt j (far (length cs) s k)) [
    | inl b ↦ p j b
    | inr b ↦ let e : far (length cs) s k ≡ j = omega (arith, far_more) in let at = sym (ahead_far (length cs) s k sl kl) ∙ ap (ahead (length cs) s) e in rw (sym at) here
  ]

  pub walked_more : (P : Option Entry → Type 0) → Passed cs s (far (length cs) s k) P → P (get_or cs k None) → Walked cs s (ahead (length cs) k 1) P
  walked_more P p here = (following_less (length cs) k kl, passed_more (λ c. full c ≡ true) o f, passed_more P p here)

  pub walked_less : length cs - far (length cs) s (ahead (length cs) k 1) < length cs - far (length cs) s k
  walked_less = omega (arith, far_more, far_less (length cs) s k sl kl)

-- the pair of a cell that has h, n
pub has_entry : (c : Option Entry) (h n : ℕ) → has h n c ≡ true → (e : Entry) × (c ≡ Some e) × (e.hash ≡ h) × (e.number.0 ≡ n)
has_entry None h n t = absurd (both_ways false refl t)
has_entry (Some e) h n t = let q = is_equal (e.hash, e.number.0) h n t in (e, refl, sym q.0, sym q.1)

-- a search that ends at a free cell has passed each pair of its hash
pub unseen : (cs : List (Option Entry)) (h n at : ℕ) → h % length cs < length cs → at < length cs → ((k : ℕ) → Reached cs k) → get_or cs at None ≡ None
    → Passed cs (h % length cs) (far (length cs) (h % length cs) at) (Lacks h n) → times cs h n ≡ 0
unseen cs h n at sl al ok free seen =
    let s = h % length cs in
    count_none (has h n) cs (λ k kl.
    let back = ahead_far (length cs) s k sl kl in
    let stop = ahead_far (length cs) s at sl al in
    elim (cases_Bool (has h n (get_or cs k None))) [
      | inr none ↦ none
      | inl some ↦ elim (cases_order (far (length cs) s k) (far (length cs) s at)) [
        | inl e ↦ ap (λ q. has h n (get_or cs q None)) (sym back ∙ ap (ahead (length cs) s) e ∙ stop) ∙ ap (has h n) free
        | inr (inl l) ↦ ap (λ q. has h n (get_or cs q None)) (sym back) ∙ seen (far (length cs) s k) l
        | inr (inr l) ↦
            let e = has_entry (get_or cs k None) h n some in
            let o : Open cs s (far (length cs) s k) = rw (e.1, e.2) at (ok k) in
            absurd (both_ways _ (ap full free) (ap (λ q. full (get_or cs q None)) (sym stop) ∙ o (far (length cs) s at) l))
      ]
    ])
