-- Which link each field that an ending writes belongs to: every link has its field, and the fields behind it belong to other links.
use Rattle.std.proofs.Common.{◌≡◌, ℕ, suc, ◌+◌, ◌<◌, ◌≤◌, eqb, List, [], ◌∷◌, ◌++◌, length, Some, None, Option, sym, refl, ap, ◌∙◌, subst, inl, inr, arith, length-append}
use Rattle.link.specs.declared.Link.{Link}
use Rattle.std.proofs.lemmas.Bool.{eqb-true, eqb-false, cases_Bool}
use Rattle.std.proofs.lemmas.List.{append_assoc}
use Rattle.model.specs.State.{State, Object, numbered}
use Rattle.model.specs.Ending.{Field, field, and_then, single, fields_of, fields}
use Rattle.model.specs.Reading.{nth}
use Rattle.model.proofs.Number.{none_some, some_inj, numbered_here, numbered_there, numbered_below, numbered_first, nth_at}

-- the field h is that of link i of the object k
pub record Lab (s : State) (ps : List Object) (k i : ℕ) (h : Field) : Type 0 where
  pub object : Object
  pub link : Link
  pub packed : numbered ps k ≡ Some object
  pub linked : nth object.real i ≡ Some link
  pub child : Object
  pub named : numbered s.packed link.objidx.0 ≡ Some child
  pub is : field s object link (Some child) ≡ Some h

-- the fields of one object from its link n on
abbrev Labs : State → List Object → ℕ → ℕ → List Field → Type 0
Labs s ps k n [] = Unit {0}
Labs s ps k n (h ∷ hs) = Lab s ps k n h × Labs s ps k (suc n) hs

-- each field belongs to another link than link i of the object k
abbrev pub Others : State → List Object → ℕ → ℕ → List Field → Type 0
Others s ps k i [] = Unit {0}
Others s ps k i (h ∷ hs) = ((k' i' : ℕ) × Lab s ps k' i' h × ((k' ≡ k) × (i' ≡ i) → ⊥)) × Others s ps k i hs

pub record Spot (s : State) (ps : List Object) (fs : List Field) (k i : ℕ) : Type 0 where
  pub front : List Field
  pub here : Field
  pub rest : List Field
  pub split : fs ≡ front ++ (here ∷ rest)
  pub lab : Lab s ps k i here
  pub others : Others s ps k i rest

-- ---- taking the list of fields apart

and_then_some : (a b : Option (List Field)) (fs : List Field) → and_then a b ≡ Some fs → (es ds : List Field) × (a ≡ Some es) × (b ≡ Some ds) × (fs ≡ es ++ ds)
and_then_some None b fs e = absurd (none_some fs e)
and_then_some (Some es) None fs e = absurd (none_some fs e)
and_then_some (Some es) (Some ds) fs e = (es, ds, refl, refl, sym (some_inj (es ++ ds) fs e))

single_some : (x : Option Field) (es : List Field) → single x ≡ Some es → (h : Field) × (x ≡ Some h) × (es ≡ h ∷ [])
single_some None es e = absurd (none_some es e)
single_some (Some h) es e = (h, refl, sym (some_inj (h ∷ []) es e))

field_some : (s : State) (o : Object) (l : Link) (x : Option Object) (h : Field) → field s o l x ≡ Some h → (c : Object) × (x ≡ Some c)
field_some s o l None h e = absurd (none_some h e)
field_some s o l (Some c) h e = (c, refl)

labs_of : (s : State) (ps : List Object) (k : ℕ) (o : Object) → numbered ps k ≡ Some o → (done ls : List Link) (fs : List Field) → o.real ≡ done ++ ls → fields_of s o ls ≡ Some fs →
    Labs s ps k (length done) fs × (length fs ≡ length ls)
labs_of s ps k o e done [] fs r f = let g = some_inj [] fs f in subst (λ (x : List Field). Labs s ps k (length done) x × (length x ≡ 0)) g (tt, refl)
labs_of s ps k o e done (l ∷ ls) fs r f =
    let a = and_then_some (single (field s o l (numbered s.packed l.objidx.0))) (fields_of s o ls) fs f in
    let b = single_some (field s o l (numbered s.packed l.objidx.0)) a.0 a.2 in
    let c = field_some s o l (numbered s.packed l.objidx.0) b.0 b.1 in
    let ih = labs_of s ps k o e (done ++ (l ∷ [])) ls a.1 (r ∙ sym (append_assoc done (l ∷ []) ls)) a.3 in
    let n : length (done ++ (l ∷ [])) ≡ suc (length done) = length-append done (l ∷ []) ∙ omega arith in
    subst (λ (x : List Field). Labs s ps k (length done) x × (length x ≡ suc (length ls))) (sym (a.4 ∙ ap (λ (x : List Field). x ++ a.1) b.2)) (
      (
        record {
          object = o;
          link = l;
          packed = e;
          linked = subst (λ (x : List Link). nth x (length done) ≡ Some l) (sym r) (nth_at done l ls);
          child = c.0;
          named = c.1;
          is = subst (λ (x : Option Object). field s o l x ≡ Some b.0) c.1 b.1;
        },
        subst (λ (x : ℕ). Labs s ps k x a.1) n ih.0,
      ),
      ap suc ih.1,
    )

-- ---- others

-- the later fields of one object
labs_others : (s : State) (ps : List Object) (k n i : ℕ) (fs : List Field) → i < n → Labs s ps k n fs → Others s ps k i fs
labs_others s ps k n i [] l t = tt
labs_others s ps k n i (h ∷ hs) l t = ((k, n, t.0, λ z. let y = z.1 in omega arith), labs_others s ps k (suc n) i hs (omega arith) t.1)

-- behind other fields
spot_behind : (s : State) (ps : List Object) (es fs : List Field) (k i : ℕ) → Spot s ps fs k i → Spot s ps (es ++ fs) k i
spot_behind s ps es fs k i q = record { front = es ++ q.front; here = q.here; rest = q.rest; split = ap (λ (x : List Field). es ++ x) q.split ∙ sym (append_assoc es q.front (q.here ∷ q.rest)); lab = q.lab; others = q.others }

labs_spot : (s : State) (ps : List Object) (k n i : ℕ) (fs : List Field) → n ≤ i → i < n + length fs → Labs s ps k n fs → Spot s ps fs k i
labs_spot s ps k n i [] l u t = absurd (omega arith)
labs_spot s ps k n i (h ∷ hs) l u t = elim (cases_Bool (eqb n i)) [
  | inl e ↦ subst (λ (x : ℕ). Spot s ps (h ∷ hs) k x) (eqb-true n i e) (record { front = []; here = h; rest = hs; split = refl; lab = t.0; others = labs_others s ps k (suc n) n hs (omega arith) t.1 })
  | inr e ↦ let ne = eqb-false n i e in spot_behind s ps (h ∷ []) hs k i (labs_spot s ps k (suc n) i hs (omega arith) (omega arith) t.1)
]

-- one object more
lab_more : (s : State) (o : Object) (ps : List Object) (k i : ℕ) (h : Field) → Lab s ps k i h → Lab s (o ∷ ps) k i h
lab_more s o ps k i h t =
    let l = numbered_below ps k t.object t.packed in
    record { object = t.object; link = t.link; packed = numbered_there o ps k (λ z. omega arith) ∙ t.packed; linked = t.linked; child = t.child; named = t.named; is = t.is }

others_more : (s : State) (o : Object) (ps : List Object) (k i : ℕ) (hs : List Field) → Others s ps k i hs → Others s (o ∷ ps) k i hs
others_more s o ps k i [] t = tt
others_more s o ps k i (h ∷ hs) t = ((t.0.0, t.0.1, lab_more s o ps t.0.0 t.0.1 h t.0.2, t.0.3), others_more s o ps k i hs t.1)

others_join : (s : State) (ps : List Object) (k i : ℕ) (xs ys : List Field) → Others s ps k i xs → Others s ps k i ys → Others s ps k i (xs ++ ys)
others_join s ps k i [] ys a b = b
others_join s ps k i (x ∷ xs) ys a b = (a.0, others_join s ps k i xs ys a.1 b)

labs_apart : (s : State) (ps : List Object) (k n k' i : ℕ) (fs : List Field) → (k ≡ k' → ⊥) → Labs s ps k n fs → Others s ps k' i fs
labs_apart s ps k n k' i [] ne t = tt
labs_apart s ps k n k' i (h ∷ hs) ne t = ((k, n, t.0, λ z. ne z.0), labs_apart s ps k (suc n) k' i hs ne t.1)

-- before the fields of one object more
spot_more : (s : State) (o : Object) (ps : List Object) (es ds : List Field) (k i : ℕ) → Others s (o ∷ ps) k i ds → Spot s ps es k i → Spot s (o ∷ ps) (es ++ ds) k i
spot_more s o ps es ds k i t q = record {
  front = q.front;
  here = q.here;
  rest = q.rest ++ ds;
  split = ap (λ (x : List Field). x ++ ds) q.split ∙ append_assoc q.front (q.here ∷ q.rest) ds;
  lab = lab_more s o ps k i q.here q.lab;
  others = others_join s (o ∷ ps) k i q.rest ds (others_more s o ps k i q.rest q.others) t;
}

-- ---- all links

-- every link of a packed object has its field, and the fields behind it belong to other links
pub spots : (s : State) (ps : List Object) (fs : List Field) → fields s ps ≡ Some fs → (k : ℕ) (p : Object) → numbered ps k ≡ Some p → (i : ℕ) → i < length p.real → Spot s ps fs k i
spots s [] fs f k p e i l = absurd (none_some p e)
spots s (o ∷ os) fs f k p e i l =
    let a = and_then_some (fields s os) (fields_of s o o.real) fs f in
    let t = labs_of s (o ∷ os) (length os) o (numbered_here o os) [] o.real a.1 refl a.3 in
    subst (λ (x : List Field). Spot s (o ∷ os) x k i) (sym a.4)
    (elim (cases_Bool (eqb (length os) k)) [
      | inl u ↦ let g = eqb-true (length os) k u in
          let v : o ≡ p = numbered_first o p os k g e in
          subst (λ (x : ℕ). Spot s (o ∷ os) (a.0 ++ a.1) x i) g
          (spot_behind s (o ∷ os) a.0 a.1 (length os) i (labs_spot s (o ∷ os) (length os) 0 i a.1 (omega arith) (let z = t.1 in let y = ap (λ (x : Object). length x.real) v in omega arith) t.0))
      | inr u ↦ let ne = eqb-false (length os) k u in
          spot_more s o os a.0 a.1 k i (labs_apart s (o ∷ os) (length os) 0 k i a.1 ne t.0) (spots s os a.0 a.2 k p (sym (numbered_there o os k ne) ∙ e) i l)
    ])

-- each field belongs to a link, seen from a number that no object has
pub all_labelled : (s : State) (ps : List Object) (fs : List Field) → fields s ps ≡ Some fs → (k i : ℕ) → length ps ≤ k → Others s ps k i fs
all_labelled s [] fs f k i l = let g = some_inj [] fs f in subst (λ (x : List Field). Others s [] k i x) g tt
all_labelled s (o ∷ os) fs f k i l =
    let a = and_then_some (fields s os) (fields_of s o o.real) fs f in
    let t = labs_of s (o ∷ os) (length os) o (numbered_here o os) [] o.real a.1 refl a.3 in
    subst (λ (x : List Field). Others s (o ∷ os) k i x) (sym a.4)
    (others_join s (o ∷ os) k i a.0 a.1 (others_more s o os k i a.0 (all_labelled s os a.0 a.2 k i (omega arith))) (labs_apart s (o ∷ os) (length os) 0 k i a.1 (λ z. omega arith) t.0))
