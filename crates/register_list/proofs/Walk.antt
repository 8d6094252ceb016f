-- The walk from a place on to the first row of a hash: the least number under it. Used by the proofs of `place` and `next_in`.
use Rattle.std.proofs.Common.{◌≡◌, ℕ, ◌+◌, ◌-◌, ◌<◌, ◌≤◌, true, false, List, length, get_or, take, drop, eqb, Bool, sym, refl, ap, ◌∙◌, inl, inr, arith}
use Rattle.std.proofs.lemmas.Bool.Decides.{nat_tests}
use Rattle.std.proofs.lemmas.Bool.{cases_order, cases_lt, both_ways, eqb-true, eq-eqb}
use Rattle.std.proofs.lemmas.List.{take_rest, get_or-drop, length-drop}
use Rattle.std.proofs.lemmas.List.Folds.{find_at}
use Rattle.std.proofs.lemmas.List.Sums.{fails_before_first, passes_at_first}
use Rattle.std.proofs.lemmas.Option.{slice_get-get_or, slice_get_past}
use Rattle.std.specs.List.{find, position_or_len}
use Rattle.std.specs.Option.{option_map}
use Rattle.register.specs.Pairs.{among, pairs_of, Next}
use Rattle.register.proofs.Listed.{is}
use Rattle.register_list.specs.declared.row.Row.{Row}
use Rattle.register_list.specs.Rows.{before, nil, pair, pairs, Ordered, Found, Missing, Place}
use Rattle.register_list.proofs.Order.{before_not}
use Rattle.register_list.specs.Laws.{none_among}
use Rattle.register_list.proofs.Member.{one_among}

itself : (a : Row) → before a a ≡ false
itself a = grind (arith, nat_tests)

pub found_place : (xs : List Row) (row : Row) (p : ℕ) → Ordered xs → Found xs row p → Place xs row p
found_place xs row p o f =
    let e = f.here nil in
    record {
      within = omega (arith, f.within);
      below = λ k l. rw e at (o k p (l, f.within));
      above = λ k l m. elim (cases_lt p k) [
        | inl lt ↦ before_not row (get_or xs k nil) (rw e at (o p k (lt, m)))
        | inr ge ↦ let s : k ≡ p = omega arith in rw (s, e) (itself row)
      ];
    }

pub missing_place : (xs : List Row) (row : Row) (p : ℕ) → Missing xs row p → Place xs row p
missing_place xs row p m = record { within = m.within; below = λ k l. m.below k nil l; above = λ k l n. before_not row (get_or xs k nil) (m.above k nil l n) }

module _ (xs : List Row) (h low p : ℕ) (pl : Place xs (record { number = record { 0 = low }; hash = h }) p) where
  -- the rows from the place on
  abbrev pub rest : List Row
  rest = take (length xs - p) (drop p xs)

  -- none of the first i of them is of the hash
  abbrev Passed : ℕ → Type 0
  Passed i = (k : ℕ) → k < i → (get_or rest k nil).hash ≡ h → ⊥

  rest_at : (i : ℕ) → get_or rest i nil ≡ get_or xs (p + i) nil
  rest_at i = ap (λ l. get_or l i nil) (take_rest xs p) ∙ get_or-drop p xs i nil

  rest_length : length rest ≡ length xs - p
  rest_length = ap length (take_rest xs p) ∙ length-drop p xs

  front : (k m : ℕ) → k < p → low ≤ m → is (pair (get_or xs k nil)) h m ≡ false
  front k m l le = let b = pl.below k l in grind (arith, nat_tests, b)

  other : (e : Row) (m : ℕ) → (e.hash ≡ h → ⊥) → is (pair e) h m ≡ false
  other e m f = grind (arith, nat_tests, f)

  passed : (i : ℕ) → Passed i → (k m : ℕ) → p ≤ k → k < p + i → is (pair (get_or xs k nil)) h m ≡ false
  passed i f k m le lt =
      let e : p + (k - p) ≡ k = omega arith in
      let g : get_or rest (k - p) nil ≡ get_or xs k nil = rest_at (k - p) ∙ ap (λ q. get_or xs q nil) e in
      other (get_or xs k nil) m (λ q. f (k - p) (omega arith) (ap (λ (z : Row). z.hash) g ∙ q))

  next_none : (i : ℕ) → length rest ≤ i → Passed i → (m : ℕ) → low ≤ m → among (pairs xs) h m ≡ false
  next_none i full f m le = none_among xs h m (λ k l. elim (cases_lt k p) [
    | inl lt ↦ front k m lt le
    | inr ge ↦ let n = rest_length in passed i f k m ge (omega arith)
  ])

  next_some : Ordered xs → (i : ℕ) → i < length rest → Passed i → (e : Row) → e ≡ get_or rest i nil → e.hash ≡ h
      → (low ≤ e.number.0) × (among (pairs xs) h e.number.0 ≡ true) × ((m : ℕ) → low ≤ m → m < e.number.0 → among (pairs xs) h m ≡ false)
  next_some o i less f e at t =
      let n = rest_length in
      let l : p + i < length xs = omega arith in
      let r : get_or xs (p + i) nil ≡ e = sym (rest_at i) ∙ sym at in
      let b : before e (record { number = record { 0 = low }; hash = h }) ≡ false = rw r at (pl.above (p + i) (omega arith) l) in
      let it : is (pair e) h e.number.0 ≡ true = grind (arith, nat_tests, t) in (
        grind (arith, nat_tests, b),
        one_among xs h e.number.0 (p + i) l (rw r it),
        λ m le lt. none_among xs h m (λ k l'. elim (cases_lt k p) [
          | inl below ↦ front k m below le
          | inr ge ↦ elim (cases_order k (p + i)) [
            | inl same ↦ rw (same, r) (grind (arith, nat_tests, lt))
            | inr (inl under) ↦ passed i f k m ge under
            | inr (inr over) ↦
                let q : before e (get_or xs k nil) ≡ true = rw r at (o (p + i) k (over, l')) in
                grind (arith, nat_tests, q, lt)
          ]
        ]),
      )

  -- the first of the rows from the place on that is of the hash
  pub next_first : Ordered xs → Next (pairs_of (pairs xs) 0) h low (option_map (λ (row : Row). row.number) (find (λ (row : Row). eqb row.hash h) rest))
  next_first o =
      let of-hash : Row → Bool = λ row. eqb row.hash h in
      let i = position_or_len of-hash rest in
      let none : Passed i = λ k l t. both_ways _ (fails_before_first of-hash rest k nil l) (eq-eqb _ _ t) in
      rw (find_at of-hash rest) (elim (cases_lt i (length rest)) [
        | inl l ↦ rw (slice_get-get_or rest i nil l) (next_some o i l none (get_or rest i nil) refl (eqb-true _ _ (passes_at_first of-hash rest nil l)))
        | inr past ↦ rw (slice_get_past rest i past) (next_none i past none)
      ])
