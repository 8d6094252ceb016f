-- What the law of the list rests on: rows in order have no pair twice.
use Rattle.std.specs.Prelude.{◌≡◌, ℕ, suc, ◌<◌, ◌≤◌, true, false, List, [], ◌∷◌, length, slice_index_or, refl}
use Rattle.std.proofs.Common.{arith}
use Rattle.std.proofs.lemmas.Bool.Decides.{nat_tests}
use Rattle.std.proofs.lemmas.List.{get_or-map, length-map}
use Rattle.register.specs.Pairs.{among, distinct, pairs_of, Counted}
use Rattle.register.proofs.Listed.{is, among_none, counted}
use Rattle.register_list.specs.declared.row.Row.{Row}
use Rattle.register_list.specs.Rows.{before, nil, pair, pairs, Ordered}

pub none_among : (xs : List Row) (h n : ℕ) → ((k : ℕ) → k < length xs → is (pair (slice_index_or xs k nil)) h n ≡ false) → among (pairs xs) h n ≡ false
none_among xs h n f = among_none (pairs xs) h n (λ k d l. let m : k < length xs = omega (arith, length-map xs pair) in rw (get_or-map pair xs k nil d m) (f k m))

-- a row that another stands before is not it
pub apart_back : (a b : Row) → before b a ≡ true → is (pair a) b.hash b.number.0 ≡ false
apart_back a b p = grind (arith, nat_tests)

-- rows in order have no pair twice
leads_apart : (x : Row) (xs : List Row) → Ordered (x ∷ xs) → among (pairs xs) x.hash x.number.0 ≡ false
leads_apart x xs o = none_among xs _ _ (λ k l. apart_back (slice_index_or xs k nil) x (o 0 (suc k) (omega arith, omega arith)))

pub ordered_distinct : (xs : List Row) → Ordered xs → distinct (pairs xs) ≡ true
ordered_distinct [] o = refl
ordered_distinct (x ∷ xs) o =
    let a = leads_apart x xs o in
    let r = ordered_distinct xs (λ i j (l, m). o (suc i) (suc j) (omega arith, omega arith)) in
    grind (arith, a, r)

-- n rows in order, where there is room for so many
pub counted_rows : (xs : List Row) (n room : ℕ) → Ordered xs → n ≡ length xs → n ≤ room → Counted (pairs_of (pairs xs) room)
counted_rows xs n room o long l = counted (pairs xs) room (ordered_distinct xs o) (omega (arith, length-map xs pair, long, l))
