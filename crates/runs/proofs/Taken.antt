-- The snapshot that an answer of a list is, by its place from the beginning, for `snapshot_at`.
use Rattle.std.proofs.Common.{◌≡◌, ℕ, zero, suc, ◌<◌, ◌≤◌, Bool, true, false, eqb, List, [], ◌∷◌, ◌++◌, map, reverse, length, get_or, None, Option, sym, refl, ap, ◌∙◌, inl, inr, arith, length-append}
use mathlib.Core.List.{reverse-cons}
use Rattle.std.proofs.lemmas.Bool.{cases_eq, eq-eqb, ne_eqb}
use Rattle.model.specs.declared.snapshot.Snapshot.{Snapshot}
use Rattle.model.specs.Run as model
use Rattle.model.specs.Run.{taken, taken_at}
use Rattle.runs.specs.declared.answer.Answer.{Answer}
use Rattle.runs.specs.Told.{answer_of, told}

-- the same tests of numbers that are equal together
same_test : (a b c d : ℕ) → (a ≡ b → c ≡ d) → (c ≡ d → a ≡ b) → eqb a b ≡ eqb c d
same_test a b c d there back =
    elim (cases_eq c d) [ inl e ↦ eq-eqb a b (back e) ∙ sym (eq-eqb c d e) | inr n ↦ ne_eqb a b (λ e. n (there e)) ∙ sym (ne_eqb c d n) ]

-- the first of all answers, which stands last
at_first : (zs : List model.Answer) (y : model.Answer) → taken_at (zs ++ y ∷ []) 0 ≡ taken y
at_first [] y = refl
at_first (z ∷ zs) y =
    let l = length-append zs (y ∷ []) in
    ap (λ (t : Bool). elim t [ true ↦ taken z | false ↦ taken_at (zs ++ y ∷ []) 0 ]) (ne_eqb (length (zs ++ y ∷ [])) 0 (λ e. omega arith)) ∙ at_first zs y

-- a later one
at_later : (zs : List model.Answer) (y : model.Answer) (n : ℕ) → taken_at (zs ++ y ∷ []) (suc n) ≡ taken_at zs n
at_later [] y n = ap (λ (t : Bool). elim t [ true ↦ taken y | false ↦ None ]) (ne_eqb 0 (suc n) (λ e. omega arith))
at_later (z ∷ zs) y n =
    let l = length-append zs (y ∷ []) in
    ap (λ (t : Bool). elim t [ true ↦ taken z | false ↦ taken_at (zs ++ y ∷ []) (suc n) ])
    (same_test (length (zs ++ y ∷ [])) (suc n) (length zs) n (λ e. omega arith) (λ e. omega arith))
    ∙ ap (λ (r : Option Snapshot). elim (eqb (length zs) n) [ true ↦ taken z | false ↦ r ]) (at_later zs y n)

-- by its place from the beginning
nth_taken : List model.Answer → ℕ → Option Snapshot
nth_taken [] n = None
nth_taken (y ∷ ys) zero = taken y
nth_taken (y ∷ ys) (suc n) = nth_taken ys n

from_back : (ys : List model.Answer) (n : ℕ) → taken_at (reverse ys) n ≡ nth_taken ys n
unfolding nth_taken
from_back [] n = refl
from_back (y ∷ ys) zero = ap (λ (zs : List model.Answer). taken_at zs 0) (reverse-cons y ys) ∙ at_first (reverse ys) y
from_back (y ∷ ys) (suc n) = ap (λ (zs : List model.Answer). taken_at zs (suc n)) (reverse-cons y ys) ∙ at_later (reverse ys) y n ∙ from_back ys n

held : (xs : List Answer) (n : ℕ) (x : Answer) → n < length xs → x ≡ get_or xs n x → taken (answer_of x) ≡ nth_taken (map answer_of xs) n
unfolding nth_taken
held [] n x h e = let z : ◌≡◌ {A = ℕ} 0 1 = omega arith in cc
held (y ∷ ys) zero x h e = ap (λ (a : Answer). taken (answer_of a)) e
held (y ∷ ys) (suc n) x h e = held ys n x (omega arith) e

past : (xs : List Answer) (n : ℕ) → length xs ≤ n → None ≡ nth_taken (map answer_of xs) n
unfolding nth_taken
past [] n h = refl
past (y ∷ ys) zero h = let z : ◌≡◌ {A = ℕ} 0 1 = omega arith in cc
past (y ∷ ys) (suc n) h = past ys n (omega arith)

pub taken_told : (xs : List Answer) (n : ℕ) (x : Answer) → n < length xs → x ≡ get_or xs n x → taken (answer_of x) ≡ taken_at (told xs) n
taken_told xs n x h e = held xs n x h e ∙ sym (from_back (map answer_of xs) n)

pub none_told : (xs : List Answer) (n : ℕ) → length xs ≤ n → None ≡ taken_at (told xs) n
none_told xs n h = past xs n h ∙ sym (from_back (map answer_of xs) n)
