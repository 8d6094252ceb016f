-- Pairs of a register: which stay when one is entered or struck, and how their count goes. Sharing rests on it.
use Rattle.std.proofs.Common.{◌≡◌, ℕ, suc, ◌+◌, ◌<◌, ◌≤◌, Bool, true, false, cond, not, ◌&&◌, ◌||◌, eqb, ltb, List, [], ◌∷◌, length, sym, refl, ap, ◌∙◌, inl, inr, arith}
use Rattle.register.specs.Pairs.{Pairs, same_pair, fits, entered, struck, among, distinct, Counted}
use Rattle.std.proofs.lemmas.Bool.Decides.{nat_tests}
use Rattle.model.proofs.Split.{by_test}
use Rattle.std.proofs.lemmas.Bool.{eqb-true, eq-eqb, ltb-true, ltb-false, and_parts, and_from, and_left, and_right, or_left, or_right, or_parts, or_cases, not-true, not_from_true, not_from_false, both_ways, cases_Bool, cond-true, cond-false}

or_nothing : (a b : Bool) → b ≡ false → (a || b) ≡ a
or_nothing true b e = refl
or_nothing false b e = e

or_swap : (a b : Bool) → (a || b) ≡ (b || a)
or_swap true true = refl
or_swap true false = refl
or_swap false true = refl
or_swap false false = refl

and_true : (b : Bool) → (b && true) ≡ b
and_true true = refl
and_true false = refl

-- ---- which pairs are held

pub same_pair_is : (h n g m : ℕ) → same_pair h n g m ≡ true → (g ≡ h) × (m ≡ n)
same_pair_is h n g m e = let p = and_parts (eqb g h) (eqb m n) e in (eqb-true g h p.0, eqb-true m n p.1)

pub same_pair_self : (h n : ℕ) → same_pair h n h n ≡ true
same_pair_self h n = and_from (eqb h h) (eqb n n) (eq-eqb h h refl) (eq-eqb n n refl)

-- another number is another pair
pub other_pair : (h n g m : ℕ) → (m ≡ n → ⊥) → same_pair h n g m ≡ false
other_pair h n g m ne = elim (cases_Bool (same_pair h n g m)) [ inl e ↦ absurd (ne (same_pair_is h n g m e).1) | inr e ↦ e ]

pub has_entered : (r : Pairs) (h n g m : ℕ) → r.has g m ≡ true → (entered r h n).has g m ≡ true
has_entered r h n g m e = or_left (r.has g m) _ e

pub has_struck : (r : Pairs) (h n g m : ℕ) → same_pair h n g m ≡ false → (struck r h n).has g m ≡ r.has g m
has_struck r h n g m ne = ap (λ (b : Bool). r.has g m && not b) ne ∙ and_true (r.has g m)

-- a pair that could be entered is held then
pub entered_has : (r : Pairs) (h n : ℕ) → fits r h n ≡ true → (entered r h n).has h n ≡ true
entered_has r h n e = or_right (r.has h n) _ (and_from (fits r h n) (same_pair h n h n) e (same_pair_self h n))

-- if not, the register is full
pub full_so : (r : Pairs) (h n : ℕ) → fits r h n ≡ false → r.capacity ≤ r.count
full_so r h n e = ltb-false r.count r.capacity (or_parts (r.has h n) (ltb r.count r.capacity) e).1

-- ---- the count

-- held already, new with room, or new without
pub data Entering (r : Pairs) (h n : ℕ) : Type 0 where
  held : r.has h n ≡ true → (entered r h n).count ≡ r.count → Entering r h n
  joins : r.has h n ≡ false → fits r h n ≡ true → r.count < r.capacity → (entered r h n).count ≡ suc r.count → Entering r h n
  full : fits r h n ≡ false → (entered r h n).count ≡ r.count → Entering r h n

pub entering : (r : Pairs) (h n : ℕ) → Entering r h n
entering r h n = elim (cases_Bool (r.has h n)) [
  | inl e ↦ held e (same_count (and_right (fits r h n) (not (r.has h n)) (not_from_true (r.has h n) e)))
  | inr e ↦ elim (cases_Bool (fits r h n)) [
    | inl f ↦ joins e f (room f e) (let z : cond {A = ℕ} (fits r h n && not (r.has h n)) 1 0 ≡ 1 = cond-true _ 1 0 (and_from (fits r h n) (not (r.has h n)) f (not_from_false (r.has h n) e)) in omega arith)
    | inr f ↦ full f (same_count (and_left (fits r h n) (not (r.has h n)) f))
  ]
]
  where
    same_count : (fits r h n && not (r.has h n)) ≡ false → (entered r h n).count ≡ r.count
    same_count e = let z : cond {A = ℕ} (fits r h n && not (r.has h n)) 1 0 ≡ 0 = cond-false _ 1 0 e in omega arith

    room : fits r h n ≡ true → r.has h n ≡ false → r.count < r.capacity
    room f e = elim (or_cases (r.has h n) (ltb r.count r.capacity) f) [ inl g ↦ absurd (both_ways (r.has h n) e g) | inr g ↦ ltb-true r.count r.capacity g ]

pub entered_count : (r : Pairs) (h n : ℕ) → (entered r h n).count ≤ r.count + 1
entered_count r h n = elim (entering r h n) [ held e c ↦ omega arith | joins e f l c ↦ omega arith | full f c ↦ omega arith ]

-- ---- a list of the pairs

counted_entering : (r : Pairs) (h n : ℕ) → Counted r → Entering r h n → Counted (entered r h n)
counted_entering r h n c (held e k) = record {
  listed = c.listed;
  once = c.once;
  long = k ∙ c.long;
  within = rw k c.within;
  just = λ g m. elim (cases_Bool (same_pair h n g m)) [
    | inl t ↦ let p = same_pair_is h n g m t in
        let u : r.has g m ≡ true = ap (λ (x : ℕ). r.has x m) p.0 ∙ (ap (r.has h) p.1 ∙ e) in
        or_left (r.has g m) _ u ∙ (sym u ∙ c.just g m)
    | inr t ↦ or_nothing (r.has g m) (fits r h n && same_pair h n g m) (and_right (fits r h n) (same_pair h n g m) t) ∙ c.just g m
  ];
}
counted_entering r h n c (joins e f l k) = record {
  listed = (h, n) ∷ c.listed;
  long = k ∙ ap suc c.long;
  within = rw k l;
  once = and_from (not (among c.listed h n)) (distinct c.listed) (not_from_false (among c.listed h n) (sym (c.just h n) ∙ e)) c.once;
  just = λ g m. ap (λ (b : Bool). r.has g m || (b && same_pair h n g m)) f ∙ (or_swap (r.has g m) (same_pair h n g m) ∙ ap (λ (b : Bool). same_pair h n g m || b) (c.just g m));
}
counted_entering r h n c (full f k) = record {
  listed = c.listed;
  once = c.once;
  long = k ∙ c.long;
  within = rw k c.within;
  just = λ g m. or_nothing (r.has g m) (fits r h n && same_pair h n g m) (and_left (fits r h n) (same_pair h n g m) f) ∙ c.just g m;
}

pub counted_entered : (r : Pairs) (h n : ℕ) → Counted r → Counted (entered r h n)
counted_entered r h n c = counted_entering r h n c (entering r h n)

abbrev without : ℕ → ℕ → List (ℕ × ℕ) → List (ℕ × ℕ)
without h n [] = []
without h n (x ∷ xs) = elim (same_pair x.0 x.1 h n) [ true ↦ xs | false ↦ x ∷ without h n xs ]

among_at : (xs : List (ℕ × ℕ)) (h n g m : ℕ) → same_pair h n g m ≡ true → among xs g m ≡ among xs h n
among_at xs h n g m t = let p = same_pair_is h n g m t in ap (λ (x : ℕ). among xs x m) p.0 ∙ ap (among xs h) p.1

same_there : (h n g m x y : ℕ) → same_pair x y h n ≡ true → same_pair x y g m ≡ same_pair h n g m
same_there h n g m x y t = let p = same_pair_is x y h n t in sym (ap (λ (z : ℕ). same_pair z n g m) p.0 ∙ ap (λ (z : ℕ). same_pair x z g m) p.1)

among_without : (h n : ℕ) (xs : List (ℕ × ℕ)) → distinct xs ≡ true → (g m : ℕ) → among (without h n xs) g m ≡ (among xs g m && not (same_pair h n g m))
among_without h n [] d g m = refl
among_without h n (x ∷ xs) d g m =
    let q = and_parts (not (among xs x.0 x.1)) (distinct xs) d in
    by_test (same_pair x.0 x.1 h n) _ _ (λ (ys : List (ℕ × ℕ)). among ys g m ≡ ((same_pair x.0 x.1 g m || among xs g m) && not (same_pair h n g m)))
    (λ t. let e = same_there h n g m x.0 x.1 t in elim (cases_Bool (same_pair h n g m)) [
      | inl u ↦ (among_at xs x.0 x.1 g m (e ∙ u) ∙ not-true (among xs x.0 x.1) q.0) ∙ sym (and_right (same_pair x.0 x.1 g m || among xs g m) (not (same_pair h n g m)) (not_from_true _ u))
      | inr u ↦ sym (ap (λ (b : Bool). (b || among xs g m) && not (same_pair h n g m)) (e ∙ u) ∙ (ap (λ (b : Bool). among xs g m && not b) u ∙ and_true (among xs g m)))
    ])
    (λ t. ap (λ (b : Bool). same_pair x.0 x.1 g m || b) (among_without h n xs q.1 g m) ∙ apart (same_pair x.0 x.1 g m) (among xs g m) (same_pair h n g m)
    (λ a b. both_ways (same_pair x.0 x.1 h n) t (same_there g m h n x.0 x.1 a ∙ (same_sym h n g m ∙ b))))
  where
    same_sym : (h n g m : ℕ) → same_pair g m h n ≡ same_pair h n g m
    same_sym h n g m = grind (arith, nat_tests)

    apart : (a b p : Bool) → (a ≡ true → p ≡ true → ⊥) → (a || (b && not p)) ≡ ((a || b) && not p)
    apart true b true f = absurd (f refl refl)
    apart true b false f = refl
    apart false b p f = refl

distinct_without : (h n : ℕ) (xs : List (ℕ × ℕ)) → distinct xs ≡ true → distinct (without h n xs) ≡ true
distinct_without h n [] d = refl
distinct_without h n (x ∷ xs) d =
    let q = and_parts (not (among xs x.0 x.1)) (distinct xs) d in
    by_test (same_pair x.0 x.1 h n) _ _ (λ (ys : List (ℕ × ℕ)). distinct ys ≡ true) (λ t. q.1)
    (λ t. and_from (not (among (without h n xs) x.0 x.1)) (distinct (without h n xs))
    (not_from_false _ (among_without h n xs q.1 x.0 x.1 ∙ and_left (among xs x.0 x.1) _ (not-true (among xs x.0 x.1) q.0))) (distinct_without h n xs q.1))

-- one fewer if the pair is there
length_without : (h n : ℕ) (xs : List (ℕ × ℕ)) → (among xs h n ≡ true → suc (length (without h n xs)) ≡ length xs) × (among xs h n ≡ false → length (without h n xs) ≡ length xs)
length_without h n [] = ((λ e. absurd (both_ways false refl e)), λ e. refl)
length_without h n (x ∷ xs) = by_test (same_pair x.0 x.1 h n) _ _
    (λ (ys : List (ℕ × ℕ)). ((same_pair x.0 x.1 h n || among xs h n) ≡ true → suc (length ys) ≡ suc (length xs)) × ((same_pair x.0 x.1 h n || among xs h n) ≡ false → length ys ≡ suc (length xs)))
    (λ t. ((λ e. refl), λ e. absurd (both_ways (same_pair x.0 x.1 h n) (or_parts (same_pair x.0 x.1 h n) (among xs h n) e).0 t)))
    (λ t. let ih = length_without h n xs in (
      (λ e. elim (or_cases (same_pair x.0 x.1 h n) (among xs h n) e) [ inl u ↦ absurd (both_ways (same_pair x.0 x.1 h n) t u) | inr u ↦ ap suc (ih.0 u) ]),
      λ e. ap suc (ih.1 (or_parts (same_pair x.0 x.1 h n) (among xs h n) e).1),
    ))

pub counted_struck : (r : Pairs) (h n : ℕ) → Counted r → Counted (struck r h n)
counted_struck r h n c = record {
  listed = without h n c.listed;
  once = distinct_without h n c.listed c.once;
  just = λ g m. ap (λ (b : Bool). b && not (same_pair h n g m)) (c.just g m) ∙ sym (among_without h n c.listed c.once g m);
  long = elim (cases_Bool (r.has h n)) [
    | inl e ↦ let z : cond {A = ℕ} (r.has h n) 1 0 ≡ 1 = cond-true _ 1 0 e in let w = (length_without h n c.listed).0 (sym (c.just h n) ∙ e) in let l = c.long in omega arith
    | inr e ↦ let z : cond {A = ℕ} (r.has h n) 1 0 ≡ 0 = cond-false _ 1 0 e in let w = (length_without h n c.listed).1 (sym (c.just h n) ∙ e) in let l = c.long in omega arith
  ];
  within = let l = c.within in omega arith;
}

-- a pair that is held counts
pub held_counts : (r : Pairs) (h n : ℕ) → Counted r → r.has h n ≡ true → 0 < r.count
held_counts r h n c e = some c.listed (sym (c.just h n) ∙ e) c.long
  where
    some : (xs : List (ℕ × ℕ)) → among xs h n ≡ true → r.count ≡ length xs → 0 < r.count
    some [] a l = absurd (both_ways false refl a)
    some (x ∷ xs) a l = omega arith
