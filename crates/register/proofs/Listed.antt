-- A list of pairs without repetition, in whatever order, means a set: the ways to show what a register owes from what is among its list and how long it is. Used by the proofs of each register.
use Rattle.std.proofs.Common.{◌≡◌, ℕ, zero, suc, ◌+◌, ◌-◌, ◌<◌, ◌≤◌, Bool, true, false, cond, not, ◌&&◌, ◌||◌, eqb, List, [], ◌∷◌, ◌++◌, length, get_or, sym, refl, ap, ◌∙◌, inl, inr, arith}
use Rattle.std.proofs.lemmas.Bool.Decides.{nat_tests}
use Rattle.std.proofs.lemmas.Bool.{eqb-true, and_parts, cases_Bool, or_left, or_right}
use Rattle.register.specs.Pairs.{pairs_of, same_pair, fits, entered, struck, among, distinct, Counted}

-- whether p is the pair h, n
abbrev pub is : ℕ × ℕ → ℕ → ℕ → Bool
is p h n = same_pair p.0 p.1 h n

pub is_itself : (p : ℕ × ℕ) → is p p.0 p.1 ≡ true
is_itself p = grind (arith, nat_tests)

pub is_equal : (p : ℕ × ℕ) (h n : ℕ) → is p h n ≡ true → (h ≡ p.0) × (n ≡ p.1)
is_equal p h n t = let q = and_parts (eqb h p.0) (eqb n p.1) t in (eqb-true h p.0 q.0, eqb-true n p.1 q.1)

-- at a pair that is p, the list says what it says at p
pub among_equal : (xs : List (ℕ × ℕ)) (p : ℕ × ℕ) (h n : ℕ) → is p h n ≡ true → among xs h n ≡ among xs p.0 p.1
among_equal xs p h n t = let e = is_equal p h n t in ap (λ z. among xs z n) e.0 ∙ ap (λ z. among xs p.0 z) e.1

or_assoc : (a b c : Bool) → ((a || b) || c) ≡ (a || (b || c))
or_assoc true b c = refl
or_assoc false b c = refl

swap_or : (p q b : Bool) → (p || (b || q)) ≡ ((p || q) || b)
swap_or true q b = refl
swap_or false q true = grind arith
swap_or false q false = grind arith

pub among_append : (xs ys : List (ℕ × ℕ)) (h n : ℕ) → among (xs ++ ys) h n ≡ (among xs h n || among ys h n)
among_append [] ys h n = refl
among_append (x ∷ xs) ys h n = ap (λ b. is x h n || b) (among_append xs ys h n) ∙ sym (or_assoc (is x h n) (among xs h n) (among ys h n))

-- a pair put anywhere
pub among_put : (xs ys : List (ℕ × ℕ)) (p : ℕ × ℕ) (h n : ℕ) → among (xs ++ p ∷ ys) h n ≡ (among (xs ++ ys) h n || is p h n)
among_put xs ys p h n =
    let a = among_append xs (p ∷ ys) h n in
    let b = among_append xs ys h n in
    let s = swap_or (among xs h n) (among ys h n) (is p h n) in
    cc

-- place by place
pub among_none : (xs : List (ℕ × ℕ)) (h n : ℕ) → ((k : ℕ) (d : ℕ × ℕ) → k < length xs → is (get_or xs k d) h n ≡ false) → among xs h n ≡ false
among_none [] h n f = refl
among_none (x ∷ xs) h n f = let a = f 0 x (omega arith) in let b = among_none xs h n (λ k d l. f (suc k) d (omega arith)) in grind (arith, a, b)

pub among_one : (xs : List (ℕ × ℕ)) (h n k : ℕ) (d : ℕ × ℕ) → k < length xs → is (get_or xs k d) h n ≡ true → among xs h n ≡ true
among_one [] h n k d l t = absurd (omega arith)
among_one (x ∷ xs) h n zero d l t = or_left (is x h n) (among xs h n) t
among_one (x ∷ xs) h n (suc k) d l t = or_right (is x h n) (among xs h n) (among_one xs h n k d (omega arith) t)

-- a pair of a list without repetition stands nowhere else
pub distinct_split : (xs ys : List (ℕ × ℕ)) (p : ℕ × ℕ) → distinct (xs ++ p ∷ ys) ≡ true → (among xs p.0 p.1 ≡ false) × (among ys p.0 p.1 ≡ false)
distinct_split [] ys p h = (refl, grind (arith, h))
distinct_split (x ∷ xs) ys p h =
    let s = among_append xs (p ∷ ys) x.0 x.1 in
    let i = is_itself p in
    let tail : distinct (xs ++ p ∷ ys) ≡ true = grind (arith, h) in
    let not_in : among (xs ++ p ∷ ys) x.0 x.1 ≡ false = grind (arith, h) in
    let r = distinct_split xs ys p tail in
    let first : is x p.0 p.1 ≡ false = grind (arith, nat_tests, s, not_in) in
    (grind (arith, first, r), r.1)

-- a list without repetition, without one of its pairs
pub among_without : (xs ys : List (ℕ × ℕ)) (p : ℕ × ℕ) → distinct (xs ++ p ∷ ys) ≡ true → (h n : ℕ) → among (xs ++ ys) h n ≡ (among (xs ++ p ∷ ys) h n && not (is p h n))
among_without xs ys p once h n =
    let a = among_append xs (p ∷ ys) h n in
    let b = among_append xs ys h n in
    let s = distinct_split xs ys p once in
    elim (cases_Bool (is p h n)) [
      | inl t ↦ let u = among_equal xs p h n t in let v = among_equal ys p h n t in grind (arith, a, b, s, u, v, t)
      | inr f ↦ grind (arith, a, b, f)
    ]

-- how long a list is with a pair put anywhere
pub length_put : (xs ys : List (ℕ × ℕ)) (p : ℕ × ℕ) → length (xs ++ p ∷ ys) ≡ length (xs ++ ys) + 1
length_put [] ys p = omega arith
length_put (x ∷ xs) ys p = let r = length_put xs ys p in omega arith

-- what the laws of a register ask
pub counted : (xs : List (ℕ × ℕ)) (room : ℕ) → distinct xs ≡ true → length xs ≤ room → Counted (pairs_of xs room)
counted xs room once l = record { listed = xs; once = once; just = λ h n. refl; long = refl; within = l }

-- the answers of `enter`
pub fits_held : (xs : List (ℕ × ℕ)) (room h n : ℕ) → among xs h n ≡ true → fits (pairs_of xs room) h n ≡ true
fits_held xs room h n t = grind (arith, t)

pub fits_new : (xs : List (ℕ × ℕ)) (room h n : ℕ) → length xs < room → fits (pairs_of xs room) h n ≡ true
fits_new xs room h n l = grind (arith, nat_tests)

pub fits_full : (xs : List (ℕ × ℕ)) (room h n : ℕ) → among xs h n ≡ false → room ≤ length xs → fits (pairs_of xs room) h n ≡ false
fits_full xs room h n f l = grind (arith, nat_tests, f)

-- membership and count are all that is to be shown
pub entered_is : (xs ys : List (ℕ × ℕ)) (room h n : ℕ) → ((g m : ℕ) → among ys g m ≡ (among xs g m || (fits (pairs_of xs room) h n && same_pair h n g m)))
    → length ys ≡ length xs + cond (fits (pairs_of xs room) h n && not (among xs h n)) 1 0 → pairs_of ys room ≡ entered (pairs_of xs room) h n
entered_is xs ys room h n f c = λ i. record { has = λ g m. f g m i; count = c i; capacity = room }

pub struck_is : (xs ys : List (ℕ × ℕ)) (room h n : ℕ) → ((g m : ℕ) → among ys g m ≡ (among xs g m && not (same_pair h n g m)))
    → length ys ≡ length xs - cond (among xs h n) 1 0 → pairs_of ys room ≡ struck (pairs_of xs room) h n
struck_is xs ys room h n f c = λ i. record { has = λ g m. f g m i; count = c i; capacity = room }

-- a pair that is held is entered
pub entered_held : (xs : List (ℕ × ℕ)) (room h n : ℕ) → among xs h n ≡ true → pairs_of xs room ≡ entered (pairs_of xs room) h n
entered_held xs room h n t = entered_is xs xs room h n
    (λ g m. elim (cases_Bool (same_pair h n g m)) [
      | inl e ↦ let u = among_equal xs (h, n) g m e ∙ t in grind (arith, u)
      | inr f ↦ grind (arith, f)
    ])
    (grind (arith, t))

-- a new one at capacity is not
pub entered_full : (xs : List (ℕ × ℕ)) (room h n : ℕ) → among xs h n ≡ false → room ≤ length xs → pairs_of xs room ≡ entered (pairs_of xs room) h n
entered_full xs room h n f l = let no = fits_full xs room h n f l in entered_is xs xs room h n (λ g m. grind (arith, no)) (grind (arith, no))

-- a new one that is put anywhere is entered
pub entered_put : (xs ys : List (ℕ × ℕ)) (p : ℕ × ℕ) (room : ℕ) → among (xs ++ ys) p.0 p.1 ≡ false → length (xs ++ ys) < room
    → pairs_of (xs ++ p ∷ ys) room ≡ entered (pairs_of (xs ++ ys) room) p.0 p.1
entered_put xs ys p room f l =
    let yes = fits_new (xs ++ ys) room p.0 p.1 l in
    let c = length_put xs ys p in
    entered_is (xs ++ ys) (xs ++ p ∷ ys) room p.0 p.1 (λ g m. let s = among_put xs ys p g m in grind (arith, s, yes)) (grind (arith, c, yes, f))

-- a pair that is not held is struck
pub struck_none : (xs : List (ℕ × ℕ)) (room h n : ℕ) → among xs h n ≡ false → pairs_of xs room ≡ struck (pairs_of xs room) h n
struck_none xs room h n f = struck_is xs xs room h n
    (λ g m. elim (cases_Bool (same_pair h n g m)) [
      | inl e ↦ let u = among_equal xs (h, n) g m e ∙ f in grind (arith, u)
      | inr e ↦ grind (arith, e)
    ])
    (grind (arith, f))

-- one that is taken out is struck
pub struck_drop : (xs ys : List (ℕ × ℕ)) (p : ℕ × ℕ) (room : ℕ) → distinct (xs ++ p ∷ ys) ≡ true → pairs_of (xs ++ ys) room ≡ struck (pairs_of (xs ++ p ∷ ys) room) p.0 p.1
struck_drop xs ys p room once =
    let c = length_put xs ys p in
    let i = is_itself p in
    let t = among_put xs ys p p.0 p.1 in
    let held : among (xs ++ p ∷ ys) p.0 p.1 ≡ true = grind (arith, i, t) in
    struck_is (xs ++ p ∷ ys) (xs ++ ys) room p.0 p.1 (λ g m. among_without xs ys p once g m) (grind (arith, c, held))
