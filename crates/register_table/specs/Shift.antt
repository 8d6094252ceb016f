-- How the cells change when a pair is taken out: a pair whose search goes over the gap moves into it.
use Rattle.std.specs.Prelude.{◌≡◌, ℕ, ◌%◌, Bool, cond, List, length, count_by, nat_le, slice_set, Option, Some, None}
use Rattle.register_table.specs.declared.cells.Entry.{Entry}
use Rattle.register_table.specs.Round.{far}

-- whether the search for the pair e, which stands in the cell k of n, begins at the cell g or goes over it
abbrev pub goes_over : ℕ → ℕ → ℕ → Entry → Bool
goes_over n g k e = nat_le (far n g k) (far n (e.hash % n) k)

-- the cells with the pair e of the cell k moved into the gap g, if its search goes over it, and where the gap is then
abbrev pub shifted : List (Option Entry) → ℕ → ℕ → Entry → List (Option Entry)
shifted cs g k e = cond (goes_over (length cs) g k e) (slice_set cs g (Some e)) cs

abbrev pub gap_after : List (Option Entry) → ℕ → ℕ → Entry → ℕ
gap_after cs g k e = cond (goes_over (length cs) g k e) k g

-- in whatever order, ds holds what cs holds with the cell k made free: as many cells pass any test
abbrev pub Without : List (Option Entry) → ℕ → List (Option Entry) → Type 0
Without cs k ds = (p : Option Entry → Bool) → count_by p ds ≡ count_by p (slice_set cs k None)
