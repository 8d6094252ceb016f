-- What the bisection answers of rows in order: the place of the row, or where it would stand. Used by the proof of `find`.
use Rattle.std.proofs.Common.{◌≡◌, ℕ, ◌+◌, ◌<◌, ◌≤◌, true, List, length, get_or, Ok, Err, Result, Ordering, Less, Equal, Greater, refl, arith, MatchResult}
use Rattle.std.proofs.lemmas.Bool.Decides.{nat_tests}
use Rattle.std.proofs.lemmas.List.Sorted.{searchable_from_sorted}
use Rattle.std.specs.Cmp.{IsTotalOrder, strict, means}
use Rattle.std.specs.Ordering.{MatchOrdering}
use Rattle.std.specs.List.Sorted.{IsBinarySearchResult}
use Rattle.register_list.specs.contracts.row.RowOrd.TheImpl.{ghosts}
use Rattle.register_list.specs.declared.row.Row.{Row}
use Rattle.register_list.specs.Rows.{before, Ordered, Found, Missing}
use Rattle.register_list.proofs.Order.{before_self, before_trans, before_not, neither, places}

abbrev Before : Row → Row → Type 0
Before a b = before a b ≡ true

-- what the derived order answers, in words of `before`
pub derived : (a b : Row) (r : Ordering) → (r ≡ ghosts.cmp a b) → MatchOrdering r (Before a b) (a ≡ b) (Before b a)
derived a b Less h = grind (arith, nat_tests, h)
derived a b Equal h = neither a b (grind (arith, nat_tests, h)) (grind (arith, nat_tests, h))
derived a b Greater h = grind (arith, nat_tests, h)

pub ranks : (a b : Row) → MatchOrdering (ghosts.cmp a b) (Before a b) (a ≡ b) (Before b a)
ranks a b = derived a b (ghosts.cmp a b) refl

by_row : IsTotalOrder ghosts.cmp
by_row = strict Before before_self before_trans ghosts.cmp ranks

meant : (a b : Row) (r : Ordering) → ghosts.cmp a b ≡ r → MatchOrdering r (Before a b) (a ≡ b) (Before b a)
meant = means Before before_self before_trans ghosts.cmp ranks

-- the answers of the bisection at rows in order
module _ (xs : List Row) (row : Row) (o : Ordered xs) where
  pub found : (r : Result ℕ ℕ) → MatchResult r (λ i. i < length xs) (λ i. i ≤ length xs) → IsBinarySearchResult (λ y. ghosts.cmp y row) xs r → MatchResult r (Found xs row) (Missing xs row)
  found (Ok i) l at = record { within = l; here = λ d. meant (get_or xs i d) row Equal (at d) }
  found (Err i) l parted =
      let q = parted (searchable_from_sorted by_row (λ (y : Row). y) xs row (λ k d _ m. let p = places xs o k (k + 1) d (omega arith) m in let n = before_not (get_or xs k d) (get_or xs (k + 1) d) p in grind (arith, p, n))) in
      record {
        within = l;
        below = λ k d lt. meant (get_or xs k d) row Less (q.0 k d (omega arith) lt);
        above = λ k d le lt. meant (get_or xs k d) row Greater (q.1 k d le lt);
      }
