-- How often a slot stands on a stack.
use Rattle.std.proofs.Common.{◌≡◌, ℕ, ◌+◌, ◌<◌, ◌≤◌, Bool, cond, eqb, ltb, ◌≢◌, List, [], ◌∷◌, ◌++◌, refl, ap, ◌∙◌, subst, inl, inr, arith}
use Rattle.std.proofs.lemmas.Bool.{cases_eq, cases_lt, eq-eqb, ne_eqb, lt-ltb, le-ltb}
use Rattle.link.specs.declared.PoolIdx.{PoolIdx}
use Rattle.objects.specs.Slots.{occ}

-- ---- one slot against another, or against those that were used

pub here : (x : ℕ) → ◌≡◌ {A = ℕ} (cond (eqb x x) 1 0) 1
here x = ap (λ (b : Bool). cond b 1 0) (eq-eqb x x refl)

pub there : (k x : ℕ) → k ≢ x → ◌≡◌ {A = ℕ} (cond (eqb k x) 1 0) 0
there k x h = ap (λ (b : Bool). cond b 1 0) (ne_eqb k x h)

pub inside : (k n : ℕ) → k < n → ◌≡◌ {A = ℕ} (cond (ltb k n) 1 0) 1
inside k n h = ap (λ (b : Bool). cond b 1 0) (lt-ltb k n h)

pub outside : (k n : ℕ) → n ≤ k → ◌≡◌ {A = ℕ} (cond (ltb k n) 1 0) 0
outside k n h = ap (λ (b : Bool). cond b 1 0) (le-ltb k n h)

pub not_inside : (k n : ℕ) → n ≤ k → ◌≡◌ {A = ℕ} (cond (ltb k n) 0 1) 1
not_inside k n h = ap (λ (b : Bool). cond b 0 1) (le-ltb k n h)

pub not_outside : (k n : ℕ) → k < n → ◌≡◌ {A = ℕ} (cond (ltb k n) 0 1) 0
not_outside k n h = ap (λ (b : Bool). cond b 0 1) (lt-ltb k n h)

pub in_used : (k n m : ℕ) → m ≤ cond (ltb k n) 1 0 → 0 < m → k < n
in_used k n m h p = elim (cases_lt k n) [ inl q ↦ q | inr q ↦ absurd (omega (arith, outside k n q)) ]

-- one slot more was used
pub used_more : (k n : ℕ) → ◌≡◌ {A = ℕ} (cond (ltb k (n + 1)) 1 0) (cond (ltb k n) 1 0 + cond (eqb k n) 1 0)
used_more k n =
    elim (cases_lt k n) [
      | inl h ↦ let p = inside k n h in let q = inside k (n + 1) (omega arith) in let r = there k n (λ e. omega arith) in omega arith
      | inr h ↦ elim (cases_eq k n) [
        | inl e ↦
            let p = outside k n h in let q = inside k (n + 1) (omega arith) in
            let r : ◌≡◌ {A = ℕ} (cond (eqb k n) 1 0) 1 = subst (λ (m : ℕ). ◌≡◌ {A = ℕ} (cond (eqb k m) 1 0) 1) e (here k) in
            omega arith
        | inr e ↦ let p = outside k n h in let q = outside k (n + 1) (omega arith) in let r = there k n e in omega arith
      ]
    ]

-- ---- on a stack

pub occ_split : (k : ℕ) (xs : List PoolIdx) (x : PoolIdx) (ys : List PoolIdx) → occ k (xs ++ x ∷ ys) ≡ occ k xs + cond (eqb k x.0) 1 0 + occ k ys
occ_split k [] x ys = omega arith
occ_split k (y ∷ xs) x ys = omega (arith, occ_split k xs x ys)

pub occ_top : (k : ℕ) (xs ys : List PoolIdx) (x : PoolIdx) → xs ≡ ys ++ x ∷ [] → occ k xs ≡ occ k ys + cond (eqb k x.0) 1 0
occ_top k xs ys x e = omega (arith, ap (occ k) e, occ_split k ys x [])

pub apart_of : (xs : List PoolIdx) (x j : ℕ) → occ x xs ≡ 0 → 0 < occ j xs → j ≢ x
apart_of xs x j e h q = let z : occ j xs ≡ 0 = ap (λ (k : ℕ). occ k xs) q ∙ e in omega arith
