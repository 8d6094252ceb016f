-- Fields written one after another: each stands as written unless a later one meets it, and bytes outside every field stay.
use Rattle.std.proofs.Common.{◌≡◌, ℕ, ◌+◌, ◌-◌, ◌≤◌, true, false, eqb, ltb, ◌⊎◌, List, [], ◌∷◌, ◌++◌, length, drop, sym, refl, ap, ◌∙◌, subst, inl, inr, arith, take-append-drop, drop-drop}
use Rattle.cursor.specs.Flags.{none, other, offset_overflow}
use Rattle.scalar.specs.BigEndian.{big_endian}
use Rattle.scalar.specs.Place.{part, write}
use Rattle.scalar.specs.Laws.{length_big_endian}
use Rattle.std.proofs.lemmas.List.{drop_all}
use Rattle.std.proofs.lemmas.Bool.{ltb-false, eqb-true, eqb-false}
use Rattle.model.specs.State.{State, Object}
use Rattle.model.specs.Ending.{Field, largest, put_field, put_fields}
use Rattle.model.specs.Reading.{bytes_of}
use Rattle.model.specs.Stacking.{Stacked, lowest}
use Rattle.model.specs.Offsets.{contents}
use Rattle.model.proofs.Split.{by_test, if_true, if_false}
use Rattle.model.proofs.Flag.{raised}
use Rattle.model.proofs.Memory.{length_write, part_below, part_above}

-- ---- the bytes of the packed objects

-- stacked objects fill the memory from the lowest on
pub contents_drop : (n : ℕ) (s : State) (ps : List Object) → Stacked n ps → length s.memory ≡ n → contents s ps ≡ drop (lowest n ps) s.memory
contents_drop n s [] st e = sym (drop_all n s.memory (omega arith))
contents_drop n s (p ∷ ps) st e =
    let d : p.head + (p.tail - p.head) ≡ lowest n ps = omega (arith, st.0, st.1) in
    ap (λ (x : List ℕ). bytes_of s p ++ x) (contents_drop n s ps st.2 e ∙ (ap (λ (x : ℕ). drop x s.memory) (sym d) ∙ sym (drop-drop (p.tail - p.head) p.head s.memory)))
    ∙ take-append-drop (p.tail - p.head) (drop p.head s.memory)

-- ---- fields placed

abbrev pub one_placed : Field → List ℕ → List ℕ
one_placed f m = elim (eqb f.width 0) [ true ↦ m | false ↦ write m f.place (big_endian f.width f.value) ]

abbrev pub placed : List Field → List ℕ → List ℕ
placed [] m = m
placed (f ∷ fs) m = placed fs (one_placed f m)

-- a field of any width holds its value and lies in memory
abbrev pub Fit : ℕ → Field → Type 0
Fit n f = (f.width ≡ 0 → ⊥) → (f.value ≤ largest f.width f.signed) × (f.place + f.width ≤ n)

abbrev pub AllFit : ℕ → List Field → Type 0
AllFit n [] = Unit {0}
AllFit n (f ∷ fs) = Fit n f × AllFit n fs

record PlacedOne (f : Field) (s s' : State) : Type 0 where
  memory : s'.memory ≡ one_placed f s.memory
  head : s'.head ≡ s.head
  tail : s'.tail ≡ s.tail
  clean : s.flags ≡ none
  fits : Fit (length s.memory) f

put_placed : (f : Field) (s : State) → (put_field f s).flags ≡ none → PlacedOne f s (put_field f s)
put_placed f s =
    by_test (eqb f.width 0) _ _ (λ (x : State). x.flags ≡ none → PlacedOne f s x)
    (λ z e. record { memory = sym (if_true (eqb f.width 0) s.memory (write s.memory f.place (big_endian f.width f.value)) z); head = refl; tail = refl; clean = e; fits = λ n. absurd (n (eqb-true f.width 0 z)) })
    (λ z. by_test (ltb (largest f.width f.signed) f.value) _ _ (λ (x : State). x.flags ≡ none → PlacedOne f s x)
    (λ y e. absurd (raised s.flags offset_overflow (omega arith) e))
    (λ y. by_test (ltb (length s.memory) (f.place + f.width)) _ _ (λ (x : State). x.flags ≡ none → PlacedOne f s x)
    (λ x e. absurd (raised s.flags other (omega arith) e))
    (λ x e. record { memory = sym (if_false (eqb f.width 0) s.memory (write s.memory f.place (big_endian f.width f.value)) z); head = refl; tail = refl; clean = e; fits = λ n. (ltb-false (largest f.width f.signed) f.value y, ltb-false (length s.memory) (f.place + f.width) x) })))

-- what writing the fields has done if no flag stands after it
pub record Placed (fs : List Field) (s s' : State) : Type 0 where
  pub memory : s'.memory ≡ placed fs s.memory
  pub head : s'.head ≡ s.head
  pub tail : s'.tail ≡ s.tail
  pub clean : s.flags ≡ none
  pub fits : AllFit (length s.memory) fs

pub length_one : (f : Field) (m : List ℕ) → Fit (length m) f → length (one_placed f m) ≡ length m
length_one f m fit = by_test (eqb f.width 0) _ _ (λ (x : List ℕ). length x ≡ length m) (λ e. refl)
    (λ e. length_write m f.place (big_endian f.width f.value) (rw (length_big_endian f.width f.value) (fit (eqb-false f.width 0 e)).1))

pub puts_placed : (fs : List Field) (s : State) → (put_fields fs s).flags ≡ none → Placed fs s (put_fields fs s)
puts_placed [] s e = record { memory = refl; head = refl; tail = refl; clean = e; fits = tt }
puts_placed (f ∷ fs) s e =
    let r = puts_placed fs (put_field f s) e in
    let o = put_placed f s r.clean in
    record {
      memory = r.memory ∙ ap (placed fs) o.memory;
      head = r.head ∙ o.head;
      tail = r.tail ∙ o.tail;
      clean = o.clean;
      fits = (o.fits, subst (λ (x : ℕ). AllFit x fs) (ap length o.memory ∙ length_one f s.memory o.fits) r.fits);
    }

-- ---- lists of fields

pub placed_append : (xs ys : List Field) (m : List ℕ) → placed (xs ++ ys) m ≡ placed ys (placed xs m)
placed_append [] ys m = refl
placed_append (x ∷ xs) ys m = placed_append xs ys (one_placed x m)

pub fit_append : (n : ℕ) (xs ys : List Field) → AllFit n (xs ++ ys) → AllFit n xs × AllFit n ys
fit_append n [] ys a = (tt, a)
fit_append n (x ∷ xs) ys a = let q = fit_append n xs ys a.1 in ((a.0, q.0), q.1)

pub length_placed : (fs : List Field) (m : List ℕ) → AllFit (length m) fs → length (placed fs m) ≡ length m
length_placed [] m a = refl
length_placed (f ∷ fs) m a = let e = length_one f m a.0 in length_placed fs (one_placed f m) (subst (λ (x : ℕ). AllFit x fs) (sym e) a.1) ∙ e

-- no field of the list meets the places from p to q
abbrev pub Clear : ℕ → ℕ → List Field → Type 0
Clear p q [] = Unit {0}
Clear p q (f ∷ fs) = ((f.width ≡ 0 → ⊥) → (q ≤ f.place) ⊎ (f.place + f.width ≤ p)) × Clear p q fs

pub placed_outside : (fs : List Field) (m : List ℕ) (p q : ℕ) → AllFit (length m) fs → Clear p q fs → part (placed fs m) p q ≡ part m p q
placed_outside [] m p q a c = refl
placed_outside (f ∷ fs) m p q a c =
    placed_outside fs (one_placed f m) p q (subst (λ (x : ℕ). AllFit x fs) (sym (length_one f m a.0)) a.1) c.1
    ∙ by_test (eqb f.width 0) _ _ (λ (x : List ℕ). part x p q ≡ part m p q) (λ e. refl)
    (λ e. let ne = eqb-false f.width 0 e in let l = (a.0 ne).1 in let z = length_big_endian f.width f.value in
    elim (c.0 ne) [
      | inl u ↦ part_below m f.place (big_endian f.width f.value) p q u (omega arith)
      | inr u ↦ part_above m f.place (big_endian f.width f.value) p q (rw z u) (rw z l)
    ])
