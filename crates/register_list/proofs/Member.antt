-- The rows as a set of pairs: what stands in them, and what a row put in or taken out changes. Used by the proofs of `enter` and `strike`.
use Rattle.std.proofs.Common.{◌≡◌, ℕ, ◌+◌, ◌<◌, true, false, List, ◌∷◌, ◌++◌, length, take, drop, get_or, sym, ap, ◌∙◌, inl, inr, arith, add-one, take-append-drop}
use Rattle.std.proofs.lemmas.Bool.Decides.{nat_tests}
use Rattle.std.proofs.lemmas.Bool.{cases_lt}
use Rattle.std.proofs.lemmas.List.{get_or-map, drop_more, map-append, length-map}
use Rattle.std.specs.List.{insert, remove}
use Rattle.register.specs.Pairs.{among, pairs_of, entered, struck}
use Rattle.register.proofs.Listed.{is, among_one, entered_put, struck_drop}
use Rattle.register_list.specs.declared.row.Row.{Row}
use Rattle.register_list.specs.Rows.{before, nil, pair, pairs, Ordered, Found, Missing}
use Rattle.register_list.specs.Laws.{none_among, apart_back, ordered_distinct}

pub one_among : (xs : List Row) (h n k : ℕ) → k < length xs → is (pair (get_or xs k nil)) h n ≡ true → among (pairs xs) h n ≡ true
one_among xs h n k l t = among_one (pairs xs) h n k (pair nil) (omega (arith, length-map xs pair)) (rw (get_or-map pair xs k nil (pair nil) l) t)

-- a row that stands before another is not it
apart : (a b : Row) → before a b ≡ true → is (pair a) b.hash b.number.0 ≡ false
apart a b p = grind (arith, nat_tests)

pub found_among : (xs : List Row) (row : Row) (p : ℕ) → Found xs row p → among (pairs xs) row.hash row.number.0 ≡ true
found_among xs row p f = one_among xs _ _ p f.within (rw (f.here nil) (grind (arith, nat_tests)))

pub missing_among : (xs : List Row) (row : Row) (p : ℕ) → Missing xs row p → among (pairs xs) row.hash row.number.0 ≡ false
missing_among xs row p m = none_among xs _ _ (λ k l. elim (cases_lt k p) [
  | inl lt ↦ apart (get_or xs k nil) row (m.below k nil lt)
  | inr ge ↦ apart_back (get_or xs k nil) row (m.above k nil ge l)
])

-- the list at a place
split_pairs : (xs : List Row) (p : ℕ) → pairs (take p xs) ++ pairs (drop p xs) ≡ pairs xs
split_pairs xs p = sym (map-append pair (take p xs) (drop p xs)) ∙ ap pairs (take-append-drop p xs)

pub entered_inserted : (xs : List Row) (p room : ℕ) (row : Row) → Missing xs row p → length xs < room → pairs_of (pairs (insert xs p row)) room ≡ entered (pairs_of (pairs xs) room) row.hash row.number.0
entered_inserted xs p room row m l =
    let e = split_pairs xs p in
    let f = missing_among xs row p m in
    let n = length-map xs pair in
    ap (λ z. pairs_of z room) (map-append pair (take p xs) (row ∷ drop p xs))
    ∙ entered_put (pairs (take p xs)) (pairs (drop p xs)) (pair row) room (rw e f) (rw e (omega arith))
    ∙ ap (λ z. entered (pairs_of z room) row.hash row.number.0) e

pub struck_removed : (xs : List Row) (p room : ℕ) (row : Row) → Ordered xs → Found xs row p → pairs_of (pairs (remove xs p)) room ≡ struck (pairs_of (pairs xs) room) row.hash row.number.0
struck_removed xs p room row o f =
    let e : pairs (take p xs) ++ pair row ∷ pairs (drop (p + 1) xs) ≡ pairs xs =
    ap (λ z. pairs (take p xs) ++ pair z ∷ pairs (drop (p + 1) xs)) (sym (f.here nil)) ∙ ap (λ z. pairs (take p xs) ++ pairs z) (sym (drop_more xs p nil f.within)) ∙ split_pairs xs p in
    let d = ordered_distinct xs o in
    rw (← add-one p) (ap (λ z. pairs_of z room) (map-append pair (take p xs) (drop (p + 1) xs)))
    ∙ struck_drop (pairs (take p xs)) (pairs (drop (p + 1) xs)) (pair row) room (rw e d)
    ∙ ap (λ z. struck (pairs_of z room) row.hash row.number.0) e
