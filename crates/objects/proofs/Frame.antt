-- A change of one slot leaves the objects in other slots as they were.
use Rattle.std.proofs.Common.{◌≡◌, ℕ, zero, suc, ◌+◌, ◌*◌, ◌<◌, ◌≤◌, Bool, true, false, cond, ◌≢◌, List, [], ◌∷◌, ◌++◌, map, reverse, length, get_or, set, replicate, sym, refl, ap, ◌∙◌, subst, arith}
use Rattle.std.proofs.lemmas.List.{get_or-set_other, reverse-append, map-append, append_assoc, nil_from_length, length-set}
use Rattle.link.specs.declared.Link.{Link}
use Rattle.link.specs.declared.PoolIdx.{PoolIdx}
use Rattle.links.specs.Walk.{sum_of}
use Rattle.model.specs.State.{Object}
use Rattle.objects.specs.declared.extents.Extent.{Extent}
use Rattle.objects.specs.Slots.{occ, held}
use Rattle.objects.specs.Contents.{Contents, Parts, meaning, built, in_slot, stacked, nowhere}
use Rattle.objects.proofs.Count.{here, apart_of, not_outside}
use Rattle.objects.proofs.Sound.{Sound}

frame : (f g : PoolIdx → Object) (xs : List PoolIdx) → ((i : PoolIdx) → 0 < occ i.0 xs → f i ≡ g i) → map f xs ≡ map g xs
frame f g [] h = refl
frame f g (x ∷ xs) h =
    ap (λ (o : Object). o ∷ map f xs) (h x (omega (arith, here x.0))) ∙ ap (λ (os : List Object). g x ∷ os) (frame f g xs (λ i p. h i (omega arith)))

-- the extent of a slot that is not on the stack
pub frame_extent : (es : List Extent) (ls : List (List Link)) (xs : List PoolIdx) (x : ℕ) (e : Extent) → occ x xs ≡ 0 → stacked (set es x e) ls xs ≡ stacked es ls xs
frame_extent es ls xs x e h =
    ap reverse (frame (in_slot (set es x e) ls) (in_slot es ls) xs
    (λ i p. ap (λ (v : Extent). built i v (get_or ls (2 * i.0) []) (get_or ls (2 * i.0 + 1) [])) (get_or-set_other es x i.0 e nowhere (apart_of xs x i.0 h p))))

-- ---- the links of one slot

-- the lists ls and ks differ in those of the slot x at most
pub record Touch (x : ℕ) (ls ks : List (List Link)) : Type 0 where
  pub long : length ks ≡ length ls
  pub real : (k : ℕ) → k ≢ x → get_or ks (2 * k) [] ≡ get_or ls (2 * k) []
  pub virtual : (k : ℕ) → k ≢ x → get_or ks (2 * k + 1) [] ≡ get_or ls (2 * k + 1) []

pub touch : (ls : List (List Link)) (x j : ℕ) (l : List Link) → 2 * x ≤ j → j ≤ 2 * x + 1 → Touch x ls (set ls j l)
touch ls x j l a b =
    record {
      long = length-set ls j l;
      real = λ k n. get_or-set_other ls j (2 * k) l [] (λ e. n (omega arith));
      virtual = λ k n. get_or-set_other ls j (2 * k + 1) l [] (λ e. n (omega arith));
    }

pub touch_twice : {x : ℕ} {ls ks ms : List (List Link)} → Touch x ls ks → Touch x ks ms → Touch x ls ms
touch_twice t u = record { long = u.long ∙ t.long; real = λ k n. u.real k n ∙ t.real k n; virtual = λ k n. u.virtual k n ∙ t.virtual k n }

-- the objects of a stack that the slot is not on
pub frame_links : (es : List Extent) (ls ks : List (List Link)) (xs : List PoolIdx) (x : ℕ) → Touch x ls ks → occ x xs ≡ 0 → stacked es ks xs ≡ stacked es ls xs
frame_links es ls ks xs x t h =
    ap reverse (frame (in_slot es ks) (in_slot es ls) xs
    (λ i p. let n : i.0 ≢ x = apart_of xs x i.0 h p in
    ap (λ (v : List Link). built i (get_or es i.0 nowhere) v (get_or ks (2 * i.0 + 1) [])) (t.real i.0 n) ∙ ap (λ (v : List Link). built i (get_or es i.0 nowhere) (get_or ls (2 * i.0) []) v) (t.virtual i.0 n)))

abbrev pub with_links : Parts → List (List Link) → ℕ → Parts
with_links p ks n = record { extents = p.extents; links = ks; opened = p.opened; packed = p.packed; released = p.released; used = p.used; slots = p.slots; cells = n }

-- the slot is in use: those that hold no object still have no links
pub touched : (p : Parts) (x : ℕ) (ks : List (List Link)) (n : ℕ) → Sound p → x < p.used → occ x p.released ≡ 0 → Touch x p.links ks → Sound (with_links p ks n)
touched p x ks n w u o t =
    record {
      sized = w.sized;
      paired = t.long ∙ w.paired;
      counted = w.counted;
      roomy = w.roomy;
      apart = w.apart;
      blank = λ k h.
          let ne : k ≢ x = λ e. let i = not_outside k p.used (omega arith) in let z : occ k p.released ≡ 0 = ap (λ (m : ℕ). occ m p.released) e ∙ o in omega arith in
          omega (arith, ap {B = ℕ} length (t.real k ne), ap {B = ℕ} length (t.virtual k ne), w.blank k h);
    }

-- the links changed, or left as they were
pub sound_if : (p : Parts) (b : Bool) (ms ks : List (List Link)) (n : ℕ) → Sound p → Sound (with_links p ms n) → ks ≡ cond b ms p.links → Sound (with_links p ks n)
sound_if p true ms ks n w v e = subst (λ (ls : List (List Link)). Sound (with_links p ls n)) (sym e) v
sound_if p false ms ks n w v e =
    subst (λ (ls : List (List Link)). Sound (with_links p ls n)) (sym e) (record { sized = w.sized; paired = w.paired; counted = w.counted; roomy = w.roomy; apart = w.apart; blank = w.blank })

pub means_if : (p : Parts) (b : Bool) (ms ks : List (List Link)) (n : ℕ) (z : Contents) → ks ≡ cond b ms p.links → n ≡ p.cells → meaning (with_links p ms n) ≡ z → meaning (with_links p ks n) ≡ cond b z (meaning p)
means_if p true ms ks n z e c f = ap (λ (v : List (List Link)). meaning (with_links p v n)) e ∙ f
means_if p false ms ks n z e c f = ap (λ (v : List (List Link)). meaning (with_links p v n)) e ∙ ap (λ (m : ℕ). meaning (with_links p p.links m)) c

-- ---- the objects of a stack

-- what lies above a slot, its object, and what lies below it
pub stacked_split : (es : List Extent) (ls : List (List Link)) (xs : List PoolIdx) (x : PoolIdx) (ys : List PoolIdx) → stacked es ls (xs ++ x ∷ ys) ≡ stacked es ls ys ++ in_slot es ls x ∷ stacked es ls xs
stacked_split es ls xs x ys =
    let f : PoolIdx → Object = in_slot es ls in
    let r : reverse (f x ∷ map f ys) ≡ reverse (map f ys) ++ f x ∷ [] = reverse-append (f x ∷ []) (map f ys) in
    ap reverse (map-append f xs (x ∷ ys)) ∙ reverse-append (map f xs) (f x ∷ map f ys) ∙ ap (λ (v : List Object). v ++ reverse (map f xs)) r ∙ append_assoc (reverse (map f ys)) (f x ∷ []) (reverse (map f xs))

pub stacked_top : (es : List Extent) (ls : List (List Link)) (ys xs : List PoolIdx) (x : PoolIdx) → ys ≡ xs ++ x ∷ [] → stacked es ls ys ≡ in_slot es ls x ∷ stacked es ls xs
stacked_top es ls ys xs x e = ap (stacked es ls) e ∙ stacked_split es ls xs x []

-- the object of a slot that has no links
pub blank_slot : (ls : List (List Link)) (x : PoolIdx) (e : Extent) → held ls x.0 ≡ 0 → built x e (get_or ls (2 * x.0) []) (get_or ls (2 * x.0 + 1) []) ≡ built x e [] []
blank_slot ls x e h =
    ap (λ (v : List Link). built x e v (get_or ls (2 * x.0 + 1) [])) (nil_from_length (get_or ls (2 * x.0) []) (omega arith))
    ∙ ap (λ (v : List Link). built x e [] v) (nil_from_length (get_or ls (2 * x.0 + 1) []) (omega arith))

-- ---- the cells in use

pub sum_set : (ls : List (List Link)) (i : ℕ) (l : List Link) → i < length ls → sum_of length (set ls i l) + length (get_or ls i []) ≡ sum_of length ls + length l
sum_set [] i l h = absurd (omega arith)
sum_set (x ∷ xs) zero l h = omega arith
sum_set (x ∷ xs) (suc i) l h = omega (arith, sum_set xs i l (omega arith))

pub none_linked : (n : ℕ) → sum_of {X = List Link} length (replicate n []) ≡ 0
none_linked zero = refl
none_linked (suc n) = omega (arith, none_linked n)
