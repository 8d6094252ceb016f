-- What is read of lists of links: their lengths, their last link, and whether two are equal.
use Rattle.std.proofs.Common.{◌≡◌, ℕ, zero, suc, ◌-◌, ◌<◌, Bool, true, false, eqb, List, [], ◌∷◌, length, get_or, Decides, IfSome, MatchOption, Some, None, Option, unwrap_or, sym, refl, ap, ◌∙◌, subst, inl, inr, arith}
use Rattle.std.specs.Option.{option_map, option_zip}
use Rattle.std.specs.List.{slice_get}
use Rattle.std.proofs.lemmas.List.{get_or_past}
use Rattle.std.proofs.lemmas.Option.{slice_get-get_or, slice_get_past}
use Rattle.std.proofs.lemmas.Bool.{cases_lt, cases_Bool, eq-eqb, eqb-true, and_parts, and_from, false≢true}
use Rattle.link.specs.declared.Link.{Link}
use Rattle.link.specs.declared.LinkWidth.{LinkWidth}
use Rattle.link.specs.declared.LinkWidth.TheVariants.{Zero, Two, Three, Four}
use Rattle.link.specs.declared.OffsetWhence.{OffsetWhence}
use Rattle.link.specs.declared.OffsetWhence.TheVariants.{Head, Tail, Absolute}
use Rattle.link.specs.Feed.{whence_code}
use Rattle.link.specs.Width.{bytes_of_width, width_of_length}
use Rattle.model.specs.State.{Object}
use Rattle.objects.specs.declared.extents.Kind.{Kind}
use Rattle.objects.specs.declared.extents.Kind.TheVariants.{Real, Virtual}
use Rattle.objects.specs.Kinds.{of_kind, links_in}
use Rattle.objects.specs.Change.{alike}
use Rattle.model.specs.Reading.{real_of}
use Rattle.model.specs.Closing.{same_link, same_links, same_mark}
use Rattle.model.specs.Linking.{last_number}

-- the length of a list, or 0 where there is none
pub length_is : (ls : List (List Link)) (j n : ℕ) (r : Option ℕ) → r ≡ option_map length (slice_get ls j) → n ≡ unwrap_or r 0 → n ≡ length (get_or ls j [])
length_is ls j n r e f =
    f ∙ ap (λ (o : Option ℕ). unwrap_or o 0) e ∙ elim (cases_lt j (length ls)) [
      | inl h ↦ ap (λ (o : Option (List Link)). unwrap_or (option_map length o) 0) (slice_get-get_or ls j [] h)
      | inr h ↦ ap (λ (o : Option (List Link)). unwrap_or (option_map length o) 0) (slice_get_past ls j h) ∙ sym (ap length (get_or_past ls j [] h))
    ]

-- the links of a kind, read where there is an object
pub read_is : (k : Kind) (o : Option Object) (ls : List Link) → Some ls ≡ option_map (of_kind k) o → ls ≡ links_in k o
read_is k None ls e = absurd (cc)
read_is Real (Some o) ls e = cc
read_is Virtual (Some o) ls e = cc

-- the number of the last link
last_is : (xs : List Link) → option_map (λ l. l.objidx) (slice_get xs (length xs - 1)) ≡ last_number xs
last_is [] = refl
last_is (x ∷ []) = refl
last_is (x ∷ (y ∷ ys)) =
    let e : length (x ∷ (y ∷ ys)) - 1 ≡ suc (length (y ∷ ys) - 1) = omega arith in
    ap (λ (n : ℕ). option_map (λ l. l.objidx) (slice_get (x ∷ (y ∷ ys)) n)) e ∙ last_is (y ∷ ys)

pub last_child_is : (o : Option Object) (ls : List Link) (r : Option Link) → Some ls ≡ option_map (of_kind Real) o → r ≡ slice_get ls (length ls - 1) → option_map (λ (l : Link). l.objidx) r ≡ last_number (real_of o)
last_child_is o ls r e f = ap (option_map (λ (l : Link). l.objidx)) f ∙ last_is ls ∙ ap last_number (read_is Real o ls e)

-- ---- equal links

width_back : (a : LinkWidth) → width_of_length (bytes_of_width a) ≡ Some a
width_back Zero = refl
width_back Two = refl
width_back Three = refl
width_back Four = refl

width_same : (a b : LinkWidth) → eqb (bytes_of_width a) (bytes_of_width b) ≡ true → a ≡ b
width_same a b e =
    let f = width_back a in let g = width_back b in let h = ap width_of_length (eqb-true (bytes_of_width a) (bytes_of_width b) e) in cc

whence_of : ℕ → OffsetWhence
whence_of zero = Head
whence_of (suc zero) = Tail
whence_of (suc (suc n)) = Absolute

whence_back : (a : OffsetWhence) → whence_of (whence_code a) ≡ a
unfolding whence_of
whence_back Head = refl
whence_back Tail = refl
whence_back Absolute = refl

whence_same : (a b : OffsetWhence) → eqb (whence_code a) (whence_code b) ≡ true → a ≡ b
whence_same a b e = sym (whence_back a) ∙ ap whence_of (eqb-true (whence_code a) (whence_code b) e) ∙ whence_back b

mark_same : (a b : Bool) → same_mark a b ≡ true → a ≡ b
mark_same true true e = refl
mark_same true false e = absurd (false≢true e)
mark_same false true e = absurd (false≢true e)
mark_same false false e = refl

link_same : (a b : Link) → same_link a b ≡ true → a ≡ b
link_same a b e =
    let p = and_parts (eqb (bytes_of_width a.width) (bytes_of_width b.width)) _ e in
    let q = and_parts (same_mark a.is_signed b.is_signed) _ p.1 in
    let r = and_parts (eqb (whence_code a.whence) (whence_code b.whence)) _ q.1 in
    let s = and_parts (eqb a.bias b.bias) _ r.1 in
    let t = and_parts (eqb a.position b.position) (eqb a.objidx.0 b.objidx.0) s.1 in
    let w = width_same a.width b.width p.0 in
    let g = mark_same a.is_signed b.is_signed q.0 in
    let h = whence_same a.whence b.whence r.0 in
    let i = eqb-true a.bias b.bias s.0 in
    let j = eqb-true a.position b.position t.0 in
    let o = eqb-true a.objidx.0 b.objidx.0 t.1 in
    λ z. record { width = w z; is_signed = g z; whence = h z; bias = i z; position = j z; objidx = record { 0 = o z } }

eqb_here : (n : ℕ) → eqb n n ≡ true
eqb_here n = eq-eqb n n refl

mark_here : (b : Bool) → same_mark b b ≡ true
mark_here true = refl
mark_here false = refl

link_here : (a : Link) → same_link a a ≡ true
link_here a =
    and_from (eqb (bytes_of_width a.width) (bytes_of_width a.width)) _ (eqb_here (bytes_of_width a.width)) (and_from (same_mark a.is_signed a.is_signed) _ (mark_here a.is_signed)
    (and_from (eqb (whence_code a.whence) (whence_code a.whence)) _ (eqb_here (whence_code a.whence))
    (and_from (eqb a.bias a.bias) _ (eqb_here a.bias) (and_from (eqb a.position a.position) _ (eqb_here a.position) (eqb_here a.objidx.0)))))

links_here : (xs : List Link) → same_links xs xs ≡ true
links_here [] = refl
links_here (x ∷ xs) = and_from (same_link x x) (same_links xs xs) (link_here x) (links_here xs)

links_same : (xs ys : List Link) → same_links xs ys ≡ true → xs ≡ ys
links_same [] [] e = refl
links_same [] (y ∷ ys) e = absurd (false≢true e)
links_same (x ∷ xs) [] e = absurd (false≢true e)
links_same (x ∷ xs) (y ∷ ys) e =
    let p = and_parts (same_link x y) (same_links xs ys) e in
    let a = link_same x y p.0 in
    let b = links_same xs ys p.1 in
    λ z. a z ∷ b z

-- what decides whether they are equal
same_is : (b : Bool) (xs ys : List Link) (A B : Type 0) → A → B → Decides b (A × B × (xs ≡ ys)) → b ≡ same_links xs ys
same_is true xs ys A B p q d = sym (ap (same_links xs) (sym (d.0 refl).2) ∙ links_here xs)
same_is false xs ys A B p q d = elim (cases_Bool (same_links xs ys)) [ inl e ↦ absurd (false≢true (d.1 (p, q, links_same xs ys e))) | inr e ↦ sym e ]

-- the real links of two objects, read where there are both
pub alike_is : (ls : List (List Link)) (o p : Option Object) (a b : Option ℕ) (z : Option (ℕ × ℕ)) (r : Bool) → z ≡ option_zip a b → option_map (λ j. get_or ls j []) a ≡ option_map (of_kind Real) o → option_map (λ j. get_or ls j []) b ≡ option_map (of_kind Real) p
    → IfSome a (λ j. j < length ls) → IfSome b (λ j. j < length ls) → MatchOption z (r ≡ false) (λ x. Decides r ((x.0 < length ls) × (x.1 < length ls) × (get_or ls x.0 [] ≡ get_or ls x.1 []))) → r ≡ alike o p
alike_is ls (Some o) (Some p) (Some i) (Some j) z r e f g h k d =
    let d' = subst (λ (v : Option (ℕ × ℕ)). MatchOption v (r ≡ false) (λ x. Decides r ((x.0 < length ls) × (x.1 < length ls) × (get_or ls x.0 [] ≡ get_or ls x.1 [])))) e d in
    let l : get_or ls i [] ≡ o.real = cc in
    let m : get_or ls j [] ≡ p.real = cc in
    same_is r (get_or ls i []) (get_or ls j []) _ _ h k d' ∙ ap (λ (v : List Link). same_links v (get_or ls j [])) l ∙ ap (same_links o.real) m
alike_is ls (Some o) (Some p) (Some i) None z r e f g h k d = absurd (cc)
alike_is ls (Some o) None (Some i) (Some j) z r e f g h k d = absurd (cc)
alike_is ls (Some o) None (Some i) None z r e f g h k d = subst (λ (v : Option (ℕ × ℕ)). MatchOption v (r ≡ false) (λ x. Decides r ((x.0 < length ls) × (x.1 < length ls) × (get_or ls x.0 [] ≡ get_or ls x.1 [])))) e d
alike_is ls (Some o) p None b z r e f g h k d = absurd (cc)
alike_is ls None p (Some i) b z r e f g h k d = absurd (cc)
alike_is ls None p None b z r e f g h k d = subst (λ (v : Option (ℕ × ℕ)). MatchOption v (r ≡ false) (λ x. Decides r ((x.0 < length ls) × (x.1 < length ls) × (get_or ls x.0 [] ≡ get_or ls x.1 [])))) e d
