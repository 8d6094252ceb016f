-- The order of the rows: what `before` allows, and that a row put in or taken out at its place keeps it. Used by the proofs of every call.
use Rattle.std.proofs.Common.{◌≡◌, ℕ, ◌+◌, ◌-◌, ◌<◌, true, false, ◌⊎◌, List, length, get_or, ap, ◌∙◌, inl, inr, arith}
use Rattle.std.proofs.lemmas.Bool.Decides.{nat_tests}
use Rattle.std.proofs.lemmas.Bool.{cases_order, cases_lt}
use Rattle.std.proofs.lemmas.List.{get_or_default}
use Rattle.std.specs.List.{insert}
use Rattle.std.proofs.lemmas.List.Edits.{length-insert, get_or-insert_below, get_or-insert_at, get_or-insert_above}
use Rattle.register_list.specs.declared.row.Row.{Row}
use Rattle.register_list.specs.Rows.{before, nil, Ordered, Missing}

pub before_self : (a : Row) → before a a ≡ true → ⊥
before_self a h = let z : ◌≡◌ {A = ℕ} 0 1 = grind (arith, nat_tests, h) in omega arith

pub before_trans : (a b c : Row) → before a b ≡ true → before b c ≡ true → before a c ≡ true
before_trans a b c p q = grind (arith, nat_tests)

pub before_not : (a b : Row) → before a b ≡ true → before b a ≡ false
before_not a b p = grind (arith, nat_tests)

-- two rows of which neither stands before the other are the same
pub neither : (a b : Row) → before a b ≡ false → before b a ≡ false → a ≡ b
neither a b p q =
    let n : a.number.0 ≡ b.number.0 = grind (arith, nat_tests) in
    let h : a.hash ≡ b.hash = grind (arith, nat_tests) in
    λ i. record { number = record { 0 = n i }; hash = h i }

-- the order, whatever stands past the end
pub places : (xs : List Row) → Ordered xs → (i j : ℕ) (d : Row) → i < j → j < length xs → before (get_or xs i d) (get_or xs j d) ≡ true
places xs o i j d l m = rw (get_or_default xs i d nil (omega arith), get_or_default xs j d nil m) (o i j (l, m))

-- a row put in where it would stand
module _ (xs : List Row) (p : ℕ) (row : Row) (o : Ordered xs) (free : Missing xs row p) where
  -- the place k of the longer list: where it was in the shorter
  at_inserted : (k : ℕ) → ((k < p) × (get_or (insert xs p row) k nil ≡ get_or xs k nil)) ⊎ ((k ≡ p) × (get_or (insert xs p row) k nil ≡ row)) ⊎ ((p < k) × (get_or (insert xs p row) k nil ≡ get_or xs (k - 1) nil))
  at_inserted k = elim (cases_order k p) [
    | inl at ↦ inr (inl (at, ap (λ q. get_or (insert xs p row) q nil) at ∙ get_or-insert_at xs p row nil free.within))
    | inr (inl lt) ↦ inl (lt, get_or-insert_below xs p row nil k lt free.within)
    | inr (inr gt) ↦
        let e : k ≡ (k - 1) + 1 = omega arith in
        inr (inr (gt, ap (λ q. get_or (insert xs p row) q nil) e ∙ get_or-insert_above xs p row nil (k - 1) (omega arith) free.within))
  ]

  pub ordered_inserted : Ordered (insert xs p row)
  ordered_inserted i j (l, m) =
      let n : length (insert xs p row) ≡ length xs + 1 = length-insert xs p row free.within in
      let w = free.within in
      elim (at_inserted i) [
        | inl (a, s) ↦ elim (at_inserted j) [
          | inl (b, t) ↦ rw (s, t) (o i j (l, omega arith))
          | inr (inl (b, t)) ↦ rw (s, t) (free.below i nil a)
          | inr (inr (b, t)) ↦ elim (cases_lt i (j - 1)) [
            | inl lt ↦ rw (s, t) (o i (j - 1) (lt, omega arith))
            | inr ge ↦ absurd (omega arith)
          ]
        ]
        | inr (inl (a, s)) ↦ elim (at_inserted j) [
          | inl (b, t) ↦ absurd (omega arith)
          | inr (inl (b, t)) ↦ absurd (omega arith)
          | inr (inr (b, t)) ↦ rw (s, t) (free.above (j - 1) nil (omega arith) (omega arith))
        ]
        | inr (inr (a, s)) ↦ elim (at_inserted j) [
          | inl (b, t) ↦ absurd (omega arith)
          | inr (inl (b, t)) ↦ absurd (omega arith)
          | inr (inr (b, t)) ↦ rw (s, t) (o (i - 1) (j - 1) (omega arith, omega arith))
        ]
      ]
