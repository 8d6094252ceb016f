-- Laws of walks: their lengths and parts, and what a write to a cell does to them.
use Rattle.std.proofs.Common.{◌≡◌, ℕ, zero, suc, ◌+◌, ◌-◌, ◌<◌, ◌≤◌, ◌≢◌, ◌⊎◌, List, [], ◌∷◌, ◌++◌, length, get_or, take, drop, set, sym, refl, ap, ◌∙◌, subst, inl, inr, suc-add, zero-add, add-one, arith}
use native.Mathlib.Nat.{sub-zero, suc-sub-suc}
use Rattle.std.proofs.lemmas.List.{get_or-set_same, get_or-set_other}
use Rattle.std.proofs.lemmas.Bool.{eq-eqb, ne_eqb, cases_eq}
use Rattle.links.specs.Walk.{walk, hop, last_of, occ}

pub walk_length : (ns : List ℕ) (s n : ℕ) → length (walk ns s n) ≡ n
walk_length ns s zero = refl
walk_length ns s (suc n) = ap suc (walk_length ns (get_or ns s 0) n)

pub take_walk : (ns : List ℕ) (s n m : ℕ) → m ≤ n → take m (walk ns s n) ≡ walk ns s m
take_walk ns s n zero h = refl
take_walk ns s zero (suc m) h = absurd (omega arith)
take_walk ns s (suc n) (suc m) h = ap (λ (w : List ℕ). s ∷ w) (take_walk ns (get_or ns s 0) n m (omega arith))

pub drop_walk : (ns : List ℕ) (s n m : ℕ) → m ≤ n → drop m (walk ns s n) ≡ walk ns (hop ns s m) (n - m)
drop_walk ns s n zero h = ap (walk ns s) (sym (sub-zero n))
drop_walk ns s zero (suc m) h = absurd (omega arith)
drop_walk ns s (suc n) (suc m) h =
    drop_walk ns (get_or ns s 0) n m (omega arith) ∙ ap (walk ns (hop ns (get_or ns s 0) m)) (sym (suc-sub-suc n m))

pub hop_suc : (ns : List ℕ) (s n : ℕ) → hop ns s (suc n) ≡ get_or ns (hop ns s n) 0
hop_suc ns s zero = refl
hop_suc ns s (suc n) = hop_suc ns (get_or ns s 0) n

pub get_or_walk : (ns : List ℕ) (s n i : ℕ) → i < n → get_or (walk ns s n) i 0 ≡ hop ns s i
get_or_walk ns s zero i h = absurd (omega arith)
get_or_walk ns s (suc n) zero h = refl
get_or_walk ns s (suc n) (suc i) h = get_or_walk ns (get_or ns s 0) n i (omega arith)

pub last_walk : (ns : List ℕ) (d s n : ℕ) → last_of d (walk ns s (suc n)) ≡ hop ns s n
last_walk ns d s zero = refl
last_walk ns d s (suc n) = last_walk ns s (get_or ns s 0) n

pub last_drop : (xs : List ℕ) (d n : ℕ) → n < length xs → last_of d (drop n xs) ≡ last_of d xs
last_drop [] d n h = absurd (omega arith)
last_drop (x ∷ xs) d zero h = refl
last_drop (x ∷ []) d (suc n) h = absurd (omega arith)
last_drop (x ∷ y ∷ ys) d (suc n) h = last_drop (y ∷ ys) d n (omega arith)

pub last_append : (d : ℕ) (xs ys : List ℕ) → last_of d (xs ++ ys) ≡ last_of (last_of d xs) ys
last_append d [] ys = refl
last_append d (x ∷ xs) ys = last_append x xs ys

pub occ_append : (k : ℕ) (xs ys : List ℕ) → occ k (xs ++ ys) ≡ occ k xs + occ k ys
occ_append k [] ys = omega arith
occ_append k (x ∷ xs) ys = omega (arith, occ_append k xs ys)

pub occ_here : (k : ℕ) (xs : List ℕ) → occ k (k ∷ xs) ≡ suc (occ k xs)
occ_here k xs = rw (eq-eqb k k refl) (omega arith)

pub occ_other : (k x : ℕ) (xs : List ℕ) → k ≢ x → occ k (x ∷ xs) ≡ occ k xs
occ_other k x xs h = rw (ne_eqb k x h) (omega arith)

-- the last of a list stands in it
pub occ_last : (d x : ℕ) (xs : List ℕ) → 1 ≤ occ (last_of d (x ∷ xs)) (x ∷ xs)
occ_last d x [] = omega (arith, occ_here x [])
occ_last d x (y ∷ ys) = omega (arith, occ_last x y ys)

-- each element of a list stands in it
pub occ_get_or : (xs : List ℕ) (i : ℕ) → i < length xs → 1 ≤ occ (get_or xs i 0) xs
occ_get_or [] i h = absurd (omega arith)
occ_get_or (x ∷ xs) zero h = omega (arith, occ_here x xs)
occ_get_or (x ∷ xs) (suc i) h = omega (arith, occ_get_or xs i (omega arith))

-- a write to a cell that a walk does not meet
frame_step : (ns : List ℕ) (l v s n : ℕ) → occ l (walk ns s (suc n)) ≡ 0 → (occ l (walk ns (get_or ns s 0) n) ≡ 0 → walk (set ns l v) (get_or ns s 0) n ≡ walk ns (get_or ns s 0) n) → (l ≡ s) ⊎ (l ≡ s → ⊥) → walk (set ns l v) s (suc n) ≡ walk ns s (suc n)
frame_step ns l v s n h rest (inl e) = absurd (omega (arith, rw e at h, occ_here s (walk ns (get_or ns s 0) n)))
frame_step ns l v s n h rest (inr ne) =
    let same : get_or (set ns l v) s 0 ≡ get_or ns s 0 = get_or-set_other ns l s v 0 (λ e. ne (sym e)) in
    ap (λ (t : ℕ). s ∷ walk (set ns l v) t n) same
    ∙ ap (λ (w : List ℕ). s ∷ w) (rest (omega (arith, occ_other l s (walk ns (get_or ns s 0) n) ne)))

pub walk_frame : (ns : List ℕ) (l v s n : ℕ) → occ l (walk ns s n) ≡ 0 → walk (set ns l v) s n ≡ walk ns s n
walk_frame ns l v s zero h = refl
walk_frame ns l v s (suc n) h = frame_step ns l v s n h (walk_frame ns l v (get_or ns s 0) n) (cases_eq l s)

-- the last cell of a walk is made to lead on to v
pub walk_join : (ns : List ℕ) (d v s n m l : ℕ) → last_of d (walk ns s (suc n)) ≡ l → occ l (walk ns s (suc n)) ≡ 1 → l < length ns → occ l (walk ns v m) ≡ 0
    → walk (set ns l v) s (suc n + m) ≡ walk ns s (suc n) ++ walk ns v m
walk_join ns d v s zero m l e one h z =
    let here : get_or (set ns l v) s 0 ≡ v = ap (λ (t : ℕ). get_or (set ns l v) t 0) e ∙ get_or-set_same ns l v 0 h in
    rw (suc-add zero m, zero-add m) (ap (λ (t : ℕ). s ∷ walk (set ns l v) t m) here ∙ ap (λ (w : List ℕ). s ∷ w) (walk_frame ns l v v m z))
walk_join ns d v s (suc n) m l e one h z =
    let there : 1 ≤ occ l (walk ns (get_or ns s 0) (suc n)) = subst (λ (t : ℕ). 1 ≤ occ t (walk ns (get_or ns s 0) (suc n))) e (occ_last s (get_or ns s 0) (walk ns (get_or ns (get_or ns s 0) 0) n)) in
    let ne : s ≢ l = λ (q : s ≡ l). omega (arith, there, subst (λ (t : ℕ). occ l (t ∷ walk ns (get_or ns s 0) (suc n)) ≡ 1) q one, occ_here l (walk ns (get_or ns s 0) (suc n))) in
    let ne' : l ≢ s = λ (q : l ≡ s). ne (sym q) in
    let same : get_or (set ns l v) s 0 ≡ get_or ns s 0 = get_or-set_other ns l s v 0 ne in
    let one' : occ l (walk ns (get_or ns s 0) (suc n)) ≡ 1 = sym (occ_other l s (walk ns (get_or ns s 0) (suc n)) ne') ∙ one in
    rw (suc-add (suc n) m)
    (ap (λ (t : ℕ). s ∷ walk (set ns l v) t (suc n + m)) same
    ∙ ap (λ (w : List ℕ). s ∷ w) (walk_join ns s v (get_or ns s 0) n m l e one' h z))

pub hop_more : (ns : List ℕ) (s n : ℕ) → hop ns s (n + 1) ≡ get_or ns (hop ns s n) 0
hop_more ns s n = rw add-one (hop_suc ns s n)

pub hop_from_last : (ns : List ℕ) (s n : ℕ) → 0 < n → hop ns s n ≡ get_or ns (hop ns s (n - 1)) 0
hop_from_last ns s zero h = absurd (omega arith)
hop_from_last ns s (suc n) h =
    let is : suc n - 1 ≡ n = omega arith in
    hop_suc ns s n ∙ ap (λ (m : ℕ). get_or ns (hop ns s m) 0) (sym is)
