-- The search for an equal object finds the least that is entered, and misses none.
use Rattle.std.proofs.Common.{◌≡◌, ℕ, ◌<◌, Bool, true, false, cond, eqb, List, [], ◌∷◌, length, Some, None, Option, sym, refl, ap, ◌∙◌, subst, inl, inr, arith}
use Rattle.link.specs.declared.Link.{Link}
use Rattle.link.specs.declared.LinkWidth.{LinkWidth}
use Rattle.link.specs.declared.LinkWidth.TheVariants.{Zero, Two, Three, Four}
use Rattle.link.specs.declared.OffsetWhence.{OffsetWhence}
use Rattle.link.specs.declared.OffsetWhence.TheVariants.{Head, Tail, Absolute}
use Rattle.link.specs.Feed.{whence_code}
use Rattle.link.specs.Width.{bytes_of_width}
use Rattle.register.specs.Pairs.{Pairs}
use Rattle.scalar.specs.Place.{part}
use Rattle.std.proofs.lemmas.Bool.{eqb-true, eqb-false, eq-eqb, and_parts, and_from, both_ways, cases_Bool}
use Rattle.model.specs.State.{Object, index, numbered}
use Rattle.model.specs.Closing.{same_bytes, same_mark, same_link, same_links, matches, or_else, twin}
use Rattle.model.proofs.Number.{none_some, numbered_here, numbered_there, numbered_below, numbered_first}

-- ---- the tests of equality

same_bytes_true : (xs ys : List ℕ) → same_bytes xs ys ≡ true → xs ≡ ys
same_bytes_true [] [] e = refl
same_bytes_true [] (y ∷ ys) e = absurd (both_ways false refl e)
same_bytes_true (x ∷ xs) [] e = absurd (both_ways false refl e)
same_bytes_true (x ∷ xs) (y ∷ ys) e =
    let p = and_parts (eqb x y) (same_bytes xs ys) e in let a = eqb-true x y p.0 in let b = same_bytes_true xs ys p.1 in cc

same_bytes_refl : (xs : List ℕ) → same_bytes xs xs ≡ true
same_bytes_refl [] = refl
same_bytes_refl (x ∷ xs) = and_from (eqb x x) (same_bytes xs xs) (eq-eqb x x refl) (same_bytes_refl xs)

same_mark_true : (a b : Bool) → same_mark a b ≡ true → a ≡ b
same_mark_true true true e = refl
same_mark_true true false e = sym e
same_mark_true false true e = e
same_mark_true false false e = refl

same_mark_refl : (a : Bool) → same_mark a a ≡ true
same_mark_refl true = refl
same_mark_refl false = refl

whence_inj : (v w : OffsetWhence) → whence_code v ≡ whence_code w → v ≡ w
whence_inj Head Head e = refl
whence_inj Head Tail e = absurd (omega arith)
whence_inj Head Absolute e = absurd (omega arith)
whence_inj Tail Head e = absurd (omega arith)
whence_inj Tail Tail e = refl
whence_inj Tail Absolute e = absurd (omega arith)
whence_inj Absolute Head e = absurd (omega arith)
whence_inj Absolute Tail e = absurd (omega arith)
whence_inj Absolute Absolute e = refl

-- the width of so many bytes
abbrev width_for : ℕ → LinkWidth
width_for n = cond (eqb n 0) Zero (cond (eqb n 2) Two (cond (eqb n 3) Three Four))

width_back : (v : LinkWidth) → width_for (bytes_of_width v) ≡ v
width_back Zero = refl
width_back Two = refl
width_back Three = refl
width_back Four = refl

width_inj : (v w : LinkWidth) → bytes_of_width v ≡ bytes_of_width w → v ≡ w
width_inj v w e = sym (width_back v) ∙ (ap width_for e ∙ width_back w)

same_link_true : (k l : Link) → same_link k l ≡ true → k ≡ l
same_link_true k l e =
    let a = and_parts (eqb (bytes_of_width k.width) (bytes_of_width l.width)) _ e in
    let b = and_parts (same_mark k.is_signed l.is_signed) _ a.1 in
    let c = and_parts (eqb (whence_code k.whence) (whence_code l.whence)) _ b.1 in
    let d = and_parts (eqb k.bias l.bias) _ c.1 in
    let f = and_parts (eqb k.position l.position) _ d.1 in
    λ i. record {
      width = width_inj k.width l.width (eqb-true (bytes_of_width k.width) (bytes_of_width l.width) a.0) i;
      is_signed = same_mark_true k.is_signed l.is_signed b.0 i;
      whence = whence_inj k.whence l.whence (eqb-true (whence_code k.whence) (whence_code l.whence) c.0) i;
      bias = eqb-true k.bias l.bias d.0 i;
      position = eqb-true k.position l.position f.0 i;
      objidx = index (eqb-true k.objidx.0 l.objidx.0 f.1 i);
    }

same_link_refl : (k : Link) → same_link k k ≡ true
same_link_refl k =
    and_from (eqb (bytes_of_width k.width) (bytes_of_width k.width)) _ (eq-eqb (bytes_of_width k.width) (bytes_of_width k.width) refl)
    (and_from (same_mark k.is_signed k.is_signed) _ (same_mark_refl k.is_signed)
    (and_from (eqb (whence_code k.whence) (whence_code k.whence)) _ (eq-eqb (whence_code k.whence) (whence_code k.whence) refl)
    (and_from (eqb k.bias k.bias) _ (eq-eqb k.bias k.bias refl)
    (and_from (eqb k.position k.position) _ (eq-eqb k.position k.position refl) (eq-eqb k.objidx.0 k.objidx.0 refl)))))

same_links_true : (ks ls : List Link) → same_links ks ls ≡ true → ks ≡ ls
same_links_true [] [] e = refl
same_links_true [] (y ∷ ys) e = absurd (both_ways false refl e)
same_links_true (x ∷ xs) [] e = absurd (both_ways false refl e)
same_links_true (x ∷ xs) (y ∷ ys) e =
    let p = and_parts (same_link x y) (same_links xs ys) e in let a = same_link_true x y p.0 in let b = same_links_true xs ys p.1 in cc

same_links_refl : (ks : List Link) → same_links ks ks ≡ true
same_links_refl [] = refl
same_links_refl (x ∷ xs) = and_from (same_link x x) (same_links xs xs) (same_link_refl x) (same_links_refl xs)

-- ---- a match

module _ (m : List ℕ) (r : Pairs) (h : ℕ) (bs : List ℕ) (ls : List Link) where
  pub record Match (k : ℕ) (p : Object) : Type 0 where
    pub entered : r.has h k ≡ true
    pub bytes : part m p.head p.tail ≡ bs
    pub links : p.real ≡ ls

  match_from : (k : ℕ) (p : Object) → matches m r h bs ls k p ≡ true → Match k p
  match_from k p e =
      let a = and_parts (r.has h k) _ e in
      let b = and_parts (same_bytes (part m p.head p.tail) bs) (same_links p.real ls) a.1 in
      record { entered = a.0; bytes = same_bytes_true (part m p.head p.tail) bs b.0; links = same_links_true p.real ls b.1 }

  match_to : (k : ℕ) (p : Object) → Match k p → matches m r h bs ls k p ≡ true
  match_to k p t =
      and_from (r.has h k) _ t.entered
      (and_from (same_bytes (part m p.head p.tail) bs) (same_links p.real ls) (subst (λ (x : List ℕ). same_bytes (part m p.head p.tail) x ≡ true) t.bytes (same_bytes_refl (part m p.head p.tail)))
      (subst (λ (x : List Link). same_links p.real x ≡ true) t.links (same_links_refl p.real)))

  pub record Found (ps : List Object) (k : ℕ) : Type 0 where
    pub object : Object
    pub named : numbered ps k ≡ Some object
    pub match : Match k object
    pub least : (j : ℕ) (q : Object) → j < k → numbered ps j ≡ Some q → Match j q → ⊥

  abbrev pub Searched : List Object → Option ℕ → Type 0
  Searched ps (Some k) = Found ps k
  Searched ps None = (j : ℕ) (q : Object) → numbered ps j ≡ Some q → Match j q → ⊥

  searching : (p : Object) (ps : List Object) (o : Option ℕ) → Searched ps o → Searched (p ∷ ps) (or_else o (cond (matches m r h bs ls (length ps) p) (Some (length ps)) None))
  searching p ps (Some k) f =
      let l = numbered_below ps k f.object f.named in
      record { object = f.object; named = numbered_there p ps k (λ z. omega arith) ∙ f.named; match = f.match; least = λ j q u n. f.least j q u (sym (numbered_there p ps j (λ z. omega arith)) ∙ n) }
  searching p ps None f = elim (cases_Bool (matches m r h bs ls (length ps) p)) [
    | inl t ↦ subst (λ (b : Bool). Searched (p ∷ ps) (cond b (Some (length ps)) None)) (sym t)
        (record { object = p; named = numbered_here p ps; match = match_from (length ps) p t; least = λ j q u n. f j q (sym (numbered_there p ps j (λ z. omega arith)) ∙ n) })
    | inr t ↦ subst (λ (b : Bool). Searched (p ∷ ps) (cond b (Some (length ps)) None)) (sym t)
        (λ j q n w. elim (cases_Bool (eqb (length ps) j)) [
          | inl u ↦ let g : length ps ≡ j = eqb-true (length ps) j u in
              let v : p ≡ q = numbered_first p q ps j g n in
              both_ways (matches m r h bs ls (length ps) p) t (subst (λ (x : ℕ). matches m r h bs ls x p ≡ true) (sym g) (subst (λ (x : Object). matches m r h bs ls j x ≡ true) (sym v) (match_to j q w)))
          | inr u ↦ f j q (sym (numbered_there p ps j (eqb-false (length ps) j u)) ∙ n) w
        ])
  ]

  pub twin_searched : (ps : List Object) → Searched ps (twin m r h bs ls ps)
  twin_searched [] = λ j q n w. none_some q n
  twin_searched (p ∷ ps) = searching p ps (twin m r h bs ls ps) (twin_searched ps)
