-- Flags: a hard set stays hard whatever joins it, and joining none changes nothing.
use Rattle.std.proofs.Common.{◌≡◌, ℕ, zero, suc, ◌<◌, ◌≤◌, Bool, true, false, not, ◌&&◌, ◌||◌, eqb, sym, refl, ap, subst, inl, inr, not-suc-le-zero, arith}
use Rattle.std.specs.Int.Bits.{bit_or, or_add_and, or_zero_r}
use Rattle.std.proofs.lemmas.Nat.{and_le_l, and_le_r}
use Rattle.cursor.specs.declared.flags.SerializeErrorFlags.{SerializeErrorFlags}
use Rattle.cursor.specs.Flags.{flags, none, joined, hard}
use Rattle.std.proofs.lemmas.Bool.{cases_Bool, cases_lt, eqb-true, eqb-false, or_cases, and_parts, both_ways, not-false}
use Rattle.std.proofs.lemmas.Bool.Decides.{nat_tests}
use Rattle.model.specs.State.{State, flag}
use Rattle.model.specs.Declining.{flagged}

-- a test at each number below n
abbrev below : ℕ → (ℕ → Bool) → Bool
below zero f = true
below (suc n) f = f n && below n f

below_at : (n : ℕ) (f : ℕ → Bool) → below n f ≡ true → (k : ℕ) → k < n → f k ≡ true
below_at zero f e k h = absurd (not-suc-le-zero h)
below_at (suc n) f e k h = elim (cases_Bool (eqb k n)) [
  | inl p ↦ subst (λ (x : ℕ). f x ≡ true) (sym (eqb-true k n p)) (and_parts (f n) (below n f) e).0
  | inr q ↦ below_at n f (and_parts (f n) (below n f) e).1 k (omega (arith, eqb-false k n q))
]

abbrev row : ℕ → ℕ → Bool
row f g = not (hard (flags f)) || hard (flags (bit_or f g))

abbrev all_rows : ℕ → Bool
all_rows f = below 17 (row f)

-- the sets up to 16, by computing; any set above is hard
table : below 17 all_rows ≡ true
table = refl

or_above_l : (f g : ℕ) → f ≤ bit_or f g
or_above_l f g = omega (arith, or_add_and f g, and_le_r f g)

or_above_r : (f g : ℕ) → g ≤ bit_or f g
or_above_r f g = omega (arith, or_add_and f g, and_le_l f g)

hard_above : (f : ℕ) → 16 < f → hard (flags f) ≡ true
hard_above f h = grind (arith, nat_tests)

from_row : (f g : ℕ) → row f g ≡ true → hard (flags f) ≡ true → hard (flags (bit_or f g)) ≡ true
from_row f g e h = elim (or_cases (not (hard (flags f))) (hard (flags (bit_or f g))) e) [ inl p ↦ absurd (both_ways (not (hard (flags f))) (ap not h) p) | inr q ↦ q ]

joined_hard : (f g : ℕ) → hard (flags f) ≡ true → hard (flags (bit_or f g)) ≡ true
joined_hard f g h = elim (cases_lt 16 (bit_or f g)) [
  | inl l ↦ hard_above (bit_or f g) l
  | inr l ↦ from_row f g (below_at 17 (row f) (below_at 17 all_rows table f (omega (arith, or_above_l f g))) g (omega (arith, or_above_r f g))) h
]

pub hard_joined : (f g : SerializeErrorFlags) → hard f ≡ true → hard (joined f g) ≡ true
hard_joined f g h = joined_hard f.0 g.0 h

-- joining a set with a flag leaves a flag
pub raised : (f g : SerializeErrorFlags) → 0 < g.0 → joined f g ≡ none → ⊥
raised f g l e = let z : bit_or f.0 g.0 ≡ 0 = ap (λ (x : SerializeErrorFlags). x.0) e in omega (arith, or_add_and f.0 g.0, and_le_l f.0 g.0)

pub zero_flags : (s : State) → flagged s ≡ false → s.flags ≡ none
zero_flags s e = ap flags (eqb-true s.flags.0 0 (not-false (eqb s.flags.0 0) e))

-- a call that a standing flag declines changes nothing
pub flag_none : (s : State) → flag s none ≡ s
flag_none s = λ i. record { memory = s.memory; head = s.head; tail = s.tail; flags = flags (or_zero_r s.flags.0 i); ended = s.ended; opened = s.opened; packed = s.packed; pool = s.pool }
