-- Bytes written at a place: the memory stays as long, keeps what lies outside, and holds them there. Soundness and the output rest on it.
use Rattle.std.proofs.Common.{◌≡◌, ℕ, suc, ◌+◌, ◌-◌, ◌≤◌, List, ◌++◌, length, get_or, take, drop, sym, ap, ◌∙◌, subst, append_assoc, arith, length-append, length-drop, length-take, drop-drop}
use Rattle.scalar.specs.Place.{part, write}
use Rattle.std.proofs.lemmas.List.{drop_at, take_at, length-take-le, take-append-le, take-take, get_or-take, get_or-drop}
use Rattle.std.proofs.lemmas.Slice.{between_is}

pub length_write : (m : List ℕ) (a : ℕ) (xs : List ℕ) → a + length xs ≤ length m → length (write m a xs) ≡ length m
length_write m a xs h = simp (length-append, length-take, length-drop) (omega arith)

front_length : (m : List ℕ) (a : ℕ) (xs : List ℕ) → a ≤ length m → length (take a m ++ xs) ≡ a + length xs
front_length m a xs h = let e : length (take a m) ≡ a = length-take-le a m h in length-append (take a m) xs ∙ ap (λ (n : ℕ). n + length xs) e

pub drop_write : (m : List ℕ) (a : ℕ) (xs : List ℕ) (t : ℕ) → a + length xs ≤ t → a + length xs ≤ length m → drop t (write m a xs) ≡ drop t m
drop_write m a xs t h l =
    let k = a + length xs in
    let d : k + (t - k) ≡ t = omega arith in
    subst (λ (n : ℕ). drop n (write m a xs) ≡ drop n m) d
    (sym (drop-drop (t - k) k (write m a xs)) ∙ ap (drop (t - k)) (drop_at (take a m ++ xs) (drop k m) k (front_length m a xs (omega arith))) ∙ drop-drop (t - k) k m)

pub take_write : (m : List ℕ) (a : ℕ) (xs : List ℕ) (h : ℕ) → h ≤ a → a ≤ length m → take h (write m a xs) ≡ take h m
take_write m a xs h l u =
    ap (take h) (append_assoc (take a m) xs (drop (a + length xs) m)) ∙ take-append-le h (take a m) (xs ++ drop (a + length xs) m) (rw (length-take-le a m u) l) ∙ take-take h a m l

-- from the place on: the bytes, then what follows them
pub from_write : (m : List ℕ) (a : ℕ) (xs : List ℕ) → a ≤ length m → drop a (write m a xs) ≡ xs ++ drop (a + length xs) m
from_write m a xs l = ap (drop a) (append_assoc (take a m) xs (drop (a + length xs) m)) ∙ drop_at (take a m) (xs ++ drop (a + length xs) m) a (length-take-le a m l)

pub part_inside : (m : List ℕ) (a : ℕ) (xs : List ℕ) (q : ℕ) → q ≡ a + length xs → a ≤ length m → part (write m a xs) a q ≡ xs
part_inside m a xs q e l =
    let z : length xs ≡ q - a = omega arith in
    ap (take (q - a)) (from_write m a xs l) ∙ take_at xs (drop (a + length xs) m) (q - a) z

-- a part above a place is kept if all from there on is
pub part_kept : (m m' : List ℕ) (t a b : ℕ) → t ≤ a → drop t m' ≡ drop t m → part m' a b ≡ part m a b
part_kept m m' t a b l e =
    let d : t + (a - t) ≡ a = omega arith in
    ap (take (b - a)) (subst (λ (x : ℕ). drop x m' ≡ drop x m) d (sym (drop-drop (a - t) t m') ∙ ap (drop (a - t)) e ∙ drop-drop (a - t) t m))

pub part_below : (m : List ℕ) (a : ℕ) (xs : List ℕ) (p q : ℕ) → q ≤ a → a ≤ length m → part (write m a xs) p q ≡ part m p q
part_below m a xs p q l u = between_is (write m a xs) p q ∙ (ap (drop p) (take_write m a xs q l u) ∙ sym (between_is m p q))

pub part_above : (m : List ℕ) (a : ℕ) (xs : List ℕ) (p q : ℕ) → a + length xs ≤ p → a + length xs ≤ length m → part (write m a xs) p q ≡ part m p q
part_above m a xs p q l u = part_kept m (write m a xs) p p q (omega arith) (drop_write m a xs p l u)

pub part_empty : (m : List ℕ) (a b : ℕ) → b ≡ a → part m a b ≡ mathlib.Core.List.[]
part_empty m a b e = let z : b - a ≡ 0 = omega arith in ap (λ (x : ℕ). take x (drop a m)) z

pub length_part : (m : List ℕ) (a b : ℕ) → b ≤ length m → length (part m a b) ≡ b - a
length_part m a b l = simp (length-take, length-drop) (omega arith)

-- one byte as a part
pub get_or_part : (m : List ℕ) (x : ℕ) → get_or m x 0 ≡ get_or (part m x (suc x)) 0 0
get_or_part m x =
    let z : suc x - x ≡ 1 = omega arith in
    sym (ap (λ (y : ℕ). get_or (take y (drop x m)) 0 0) z ∙ (get_or-take 1 (drop x m) 0 0 (omega arith) ∙ (get_or-drop x m 0 0 ∙ ap (λ (y : ℕ). get_or m y 0) (omega arith))))
