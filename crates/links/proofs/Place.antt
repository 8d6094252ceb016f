-- Sums and maps over a list of which one or two places are written.
use Rattle.std.proofs.Common.{◌≡◌, ℕ, zero, suc, ◌+◌, ◌<◌, ◌≤◌, ◌≢◌, List, [], ◌∷◌, map, length, get_or, set, refl, ap, ◌∙◌, arith}
use Rattle.links.specs.Walk.{sum_of}

pub sum_of_set : {X : Type 0} (f : X → ℕ) (xs : List X) (i : ℕ) (y d : X) → i < length xs → sum_of f (set xs i y) + f (get_or xs i d) ≡ sum_of f xs + f y
sum_of_set f [] i y d h = absurd (omega arith)
sum_of_set f (x ∷ xs) zero y d h = omega arith
sum_of_set f (x ∷ xs) (suc i) y d h = omega (arith, sum_of_set f xs i y d (omega arith))

pub sum_of_map : {X Y : Type 0} (f : Y → ℕ) (g : X → Y) (xs : List X) → sum_of f (map g xs) ≡ sum_of (λ x. f (g x)) xs
sum_of_map f g [] = refl
sum_of_map f g (x ∷ xs) = omega (arith, sum_of_map f g xs)

pub sum_of_same : {X : Type 0} (f g : X → ℕ) (xs : List X) → ((x : X) → f x ≡ g x) → sum_of f xs ≡ sum_of g xs
sum_of_same f g [] h = refl
sum_of_same f g (x ∷ xs) h = omega (arith, h x, sum_of_same f g xs h)

pub part_le : {X : Type 0} (f : X → ℕ) (xs : List X) (i : ℕ) (d : X) → i < length xs → f (get_or xs i d) ≤ sum_of f xs
part_le f [] i d h = absurd (omega arith)
part_le f (x ∷ xs) zero d h = omega arith
part_le f (x ∷ xs) (suc i) d h = omega (arith, part_le f xs i d (omega arith))

pub two_le : {X : Type 0} (f : X → ℕ) (xs : List X) (i j : ℕ) (d : X) → i < length xs → j < length xs → i ≢ j → f (get_or xs i d) + f (get_or xs j d) ≤ sum_of f xs
two_le f [] i j d h k ne = absurd (omega arith)
two_le f (x ∷ xs) zero zero d h k ne = absurd (ne refl)
two_le f (x ∷ xs) zero (suc j) d h k ne = omega (arith, part_le f xs j d (omega arith))
two_le f (x ∷ xs) (suc i) zero d h k ne = omega (arith, part_le f xs i d (omega arith))
two_le f (x ∷ xs) (suc i) (suc j) d h k ne = omega (arith, two_le f xs i j d (omega arith) (omega arith) (λ (e : i ≡ j). ne (ap suc e)))

pub agree_all : {X Y : Type 0} (f g : X → Y) (xs : List X) → ((c : ℕ) (d : X) → c < length xs → f (get_or xs c d) ≡ g (get_or xs c d)) → map f xs ≡ map g xs
agree_all f g [] h = refl
agree_all {Y = Y} f g (x ∷ xs) h =
    ap (λ (y : Y). y ∷ map f xs) (h 0 x (omega arith)) ∙ ap (λ (w : List Y). g x ∷ w) (agree_all f g xs (λ c d k. h (suc c) d (omega arith)))

agree_one : {X Y : Type 0} (f g : X → Y) (xs : List X) (a : ℕ) (y : Y) → ((c : ℕ) (d : X) → c < length xs → c ≢ a → f (get_or xs c d) ≡ g (get_or xs c d)) → set (map f xs) a y ≡ set (map g xs) a y
agree_one f g [] a y h = refl
agree_one {Y = Y} f g (x ∷ xs) zero y h = ap (λ (w : List Y). y ∷ w) (agree_all f g xs (λ c d k. h (suc c) d (omega arith) (omega arith)))
agree_one {Y = Y} f g (x ∷ xs) (suc a) y h =
    ap (λ (t : Y). t ∷ set (map f xs) a y) (h 0 x (omega arith) (omega arith))
    ∙ ap (λ (w : List Y). g x ∷ w) (agree_one f g xs a y (λ c d k ne. h (suc c) d (omega arith) (omega arith)))

pub agree_two : {X Y : Type 0} (f g : X → Y) (xs : List X) (a b : ℕ) (y z : Y) → a ≢ b → ((c : ℕ) (d : X) → c < length xs → c ≢ a → c ≢ b → f (get_or xs c d) ≡ g (get_or xs c d)) → set (set (map f xs) a y) b z ≡ set (set (map g xs) a y) b z
agree_two f g [] a b y z ne h = refl
agree_two f g (x ∷ xs) zero zero y z ne h = absurd (ne refl)
agree_two {Y = Y} f g (x ∷ xs) zero (suc b) y z ne h = ap (λ (w : List Y). y ∷ w) (agree_one f g xs b z (λ c d k n. h (suc c) d (omega arith) (omega arith) (omega arith)))
agree_two {Y = Y} f g (x ∷ xs) (suc a) zero y z ne h = ap (λ (w : List Y). z ∷ w) (agree_one f g xs a y (λ c d k n. h (suc c) d (omega arith) (omega arith) (omega arith)))
agree_two {Y = Y} f g (x ∷ xs) (suc a) (suc b) y z ne h =
    ap (λ (t : Y). t ∷ set (set (map f xs) a y) b z) (h 0 x (omega arith) (omega arith) (omega arith))
    ∙ ap (λ (w : List Y). g x ∷ w) (agree_two f g xs a b y z (omega arith) (λ c d k n m. h (suc c) d (omega arith) (omega arith) (omega arith)))
