-- Which object a number names in a list, and which link stands at a place; every later proof uses it.
use Rattle.std.proofs.Common.{◌≡◌, ℕ, zero, suc, ◌<◌, eqb, ◌⊎◌, List, [], ◌∷◌, ◌++◌, length, take, Some, None, Option, sym, refl, ap, ◌∙◌, subst, inl, inr, arith}
use Rattle.link.specs.declared.Link.{Link}
use Rattle.std.proofs.lemmas.Bool.{eqb-true, eqb-false, eq-eqb, ne_eqb, cases_Bool}
use Rattle.model.specs.State.{Object, numbered}
use Rattle.model.specs.Reading.{nth}
use Rattle.model.proofs.Split.{by_test, if_true, if_false}

pub none_some : {A : Type 0} (a : A) → ◌≡◌ {A = Option A} None (Some a) → ⊥
none_some a e = let z : ◌≡◌ {A = ℕ} 0 1 = cc in omega arith

pub some_inj : {A : Type 0} (a b : A) → Some a ≡ Some b → a ≡ b
some_inj a b e = cc

-- ---- objects

pub numbered_here : (p : Object) (ps : List Object) → numbered (p ∷ ps) (length ps) ≡ Some p
numbered_here p ps = if_true (eqb (length ps) (length ps)) (Some p) (numbered ps (length ps)) (eq-eqb (length ps) (length ps) refl)

pub numbered_at : (p : Object) (ps : List Object) (k : ℕ) → length ps ≡ k → numbered (p ∷ ps) k ≡ Some p
numbered_at p ps k e = subst (λ (x : ℕ). numbered (p ∷ ps) x ≡ Some p) e (numbered_here p ps)

pub numbered_there : (p : Object) (ps : List Object) (k : ℕ) → (length ps ≡ k → ⊥) → numbered (p ∷ ps) k ≡ numbered ps k
numbered_there p ps k ne = if_false (eqb (length ps) k) (Some p) (numbered ps k) (ne_eqb (length ps) k ne)

-- the first of a list, by its number
pub numbered_first : (p q : Object) (ps : List Object) (k : ℕ) → length ps ≡ k → numbered (p ∷ ps) k ≡ Some q → p ≡ q
numbered_first p q ps k e n = some_inj p q (sym (numbered_at p ps k e) ∙ n)

pub numbered_below : (ps : List Object) (k : ℕ) (p : Object) → numbered ps k ≡ Some p → k < length ps
numbered_below [] k p e = absurd (none_some p e)
numbered_below (q ∷ qs) k p e = by_test (eqb (length qs) k) (Some q) (numbered qs k) (λ (x : Option Object). x ≡ Some p → k < suc (length qs))
    (λ t f. omega (arith, eqb-true (length qs) k t))
    (λ t f. let l : k < length qs = numbered_below qs k p f in omega arith) e

low : (n k : ℕ) → k < suc n → (n ≡ k → ⊥) → k < n
low n k l ne = omega arith

pub numbered_is : (ps : List Object) (k : ℕ) → k < length ps → (p : Object) × (numbered ps k ≡ Some p)
numbered_is [] k l = absurd (omega arith)
numbered_is (p ∷ ps) k l = elim (cases_Bool (eqb (length ps) k)) [
  | inl e ↦ (p, numbered_at p ps k (eqb-true (length ps) k e))
  | inr e ↦ let ne = eqb-false (length ps) k e in let q = numbered_is ps k (low (length ps) k l ne) in (q.0, numbered_there p ps k ne ∙ q.1)
]

-- ---- links

pub nth_below : (ls : List Link) (i : ℕ) (l : Link) → nth ls i ≡ Some l → i < length ls
nth_below [] i l e = absurd (none_some l e)
nth_below (k ∷ ls) zero l e = omega arith
nth_below (k ∷ ls) (suc i) l e = let h = nth_below ls i l e in omega arith

pub nth_is : (ls : List Link) (i : ℕ) → i < length ls → (l : Link) × (nth ls i ≡ Some l)
nth_is [] i h = absurd (omega arith)
nth_is (k ∷ ls) zero h = (k, refl)
nth_is (k ∷ ls) (suc i) h = nth_is ls i (omega arith)

pub nth_at : (xs : List Link) (l : Link) (ys : List Link) → nth (xs ++ (l ∷ ys)) (length xs) ≡ Some l
nth_at [] l ys = refl
nth_at (x ∷ xs) l ys = nth_at xs l ys

-- in a list with a link more: as before, or the link
pub nth_more : (xs : List Link) (l : Link) (i : ℕ) (k : Link) → nth (xs ++ (l ∷ [])) i ≡ Some k → (nth xs i ≡ Some k) ⊎ ((i ≡ length xs) × (l ≡ k))
nth_more [] l zero k e = inr (refl, some_inj l k e)
nth_more [] l (suc i) k e = absurd (none_some k e)
nth_more (x ∷ xs) l zero k e = inl e
nth_more (x ∷ xs) l (suc i) k e = elim (nth_more xs l i k e) [ inl f ↦ inl f | inr f ↦ inr (ap suc f.0, f.1) ]

pub nth_kept : (xs ys : List Link) (i : ℕ) (k : Link) → nth xs i ≡ Some k → nth (xs ++ ys) i ≡ Some k
nth_kept [] ys i k e = absurd (none_some k e)
nth_kept (x ∷ xs) ys zero k e = e
nth_kept (x ∷ xs) ys (suc i) k e = nth_kept xs ys i k e

-- a link of a list cut back was there before
pub nth_take : (a : ℕ) (xs : List Link) (i : ℕ) (k : Link) → nth (take a xs) i ≡ Some k → nth xs i ≡ Some k
nth_take zero xs i k e = absurd (none_some k e)
nth_take (suc a) [] i k e = e
nth_take (suc a) (x ∷ xs) zero k e = e
nth_take (suc a) (x ∷ xs) (suc i) k e = nth_take a xs i k e
