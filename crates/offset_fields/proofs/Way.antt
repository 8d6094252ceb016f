-- The links of packed objects from a number on: none past the last object, else those of the next object first.
use Rattle.std.proofs.Common.{◌≡◌, ℕ, ◌+◌, ◌<◌, ◌≤◌, Bool, true, false, cond, List, [], ◌∷◌, ◌++◌, map, length, Some, None, Option, sym, refl, ap, ◌∙◌, append-nil, inl, inr, arith}
use Rattle.std.proofs.lemmas.Bool.{eq-eqb, ne_eqb, lt-ltb, le-ltb, cases_eq}
use Rattle.std.proofs.lemmas.List.{append_assoc}
use Rattle.std.specs.Option.{option_map}
use Rattle.model.specs.State.{Object, numbered}
use Rattle.model.specs.Reading.{real_of}
use Rattle.objects.specs.Change.{outlined}
use Rattle.objects.specs.declared.extents.Outline.{Outline}
use Rattle.offset_fields.specs.declared.walk.Placed.{Placed}
use Rattle.offset_fields.specs.Passes.{extent_of, placed, placed_from}

-- ---- the object behind which all os lie

last_here : (o : Object) (os : List Object) (n : ℕ) → length os ≡ n → numbered (o ∷ os) n ≡ Some o
last_here o os n e = ap (λ (t : Bool). elim t as (λ _. Option Object) [ true ↦ Some o | false ↦ numbered os n ]) (eq-eqb (length os) n e)

last_passed : (o : Object) (os : List Object) (n : ℕ) → (length os ≡ n → ⊥) → numbered (o ∷ os) n ≡ numbered os n
last_passed o os n h = ap (λ (t : Bool). elim t as (λ _. Option Object) [ true ↦ Some o | false ↦ numbered os n ]) (ne_eqb (length os) n h)

pub with_last : (n : ℕ) (o : Object) (os : List Object) → n ≤ length os → placed_from n (o ∷ os) ≡ placed_from n os ++ map (placed (extent_of o)) o.real
with_last n o os h = ap (λ (t : Bool). cond t [] (placed_from n os ++ map (placed (extent_of o)) o.real)) (le-ltb (length os) n h)

-- ---- past the last object

pub none_from : (n : ℕ) (os : List Object) → length os ≤ n → placed_from n os ≡ []
none_from n [] h = refl
none_from n (o ∷ os) h = ap (λ (t : Bool). cond t [] (placed_from n os ++ map (placed (extent_of o)) o.real)) (lt-ltb (length os) n (omega arith))

no_outline : (x : Option Object) → option_map outlined x ≡ None → x ≡ None
no_outline None e = refl
no_outline (Some o) e = let z : ◌≡◌ {A = ℕ} 0 1 = cc in absurd (omega arith)

past_all : (n : ℕ) (os : List Object) → numbered os n ≡ None → length os ≤ n
past_all n [] e = omega arith
past_all n (o ∷ os) e = elim (cases_eq (length os) n) [
  | inl q ↦ let z : ◌≡◌ {A = Option Object} (Some o) None = sym (last_here o os n q) ∙ e in let w : ◌≡◌ {A = ℕ} 0 1 = cc in absurd (omega arith)
  | inr q ↦ let more = past_all n os (sym (last_passed o os n q) ∙ e) in omega arith
]

pub none_outlined : (n : ℕ) (os : List Object) → option_map outlined (numbered os n) ≡ None → placed_from n os ≡ []
none_outlined n os e = none_from n os (past_all n os (no_outline (numbered os n) e))

-- ---- the next object

next_first : (n : ℕ) (os : List Object) (p : Object) → n < length os → numbered os n ≡ Some p → placed_from n os ≡ map (placed (extent_of p)) p.real ++ placed_from (n + 1) os
next_first n [] p h e = absurd (omega arith)
next_first n (o ∷ os) p h e = elim (cases_eq (length os) n) [
  | inl q ↦
      let same : Some o ≡ Some p = sym (last_here o os n q) ∙ e in
      let is : o ≡ p = cc in
      with_last n o os (omega arith)
      ∙ ap (λ (xs : List Placed). xs ++ map (placed (extent_of o)) o.real) (none_from n os (omega arith))
      ∙ ap (λ (x : Object). map (placed (extent_of x)) x.real) is
      ∙ sym (append-nil (map (placed (extent_of p)) p.real))
      ∙ ap (λ (xs : List Placed). map (placed (extent_of p)) p.real ++ xs) (sym (none_from (n + 1) (o ∷ os) (omega arith)))
  | inr q ↦
      let more = next_first n os p (omega arith) (sym (last_passed o os n q) ∙ e) in
      with_last n o os (omega arith)
      ∙ ap (λ (xs : List Placed). xs ++ map (placed (extent_of o)) o.real) more
      ∙ append_assoc (map (placed (extent_of p)) p.real) (placed_from (n + 1) os) (map (placed (extent_of o)) o.real)
      ∙ ap (λ (xs : List Placed). map (placed (extent_of p)) p.real ++ xs) (sym (with_last (n + 1) o os (omega arith)))
]

by_outline : (n : ℕ) (os : List Object) (x : Option Object) (q : Outline) → n < length os → numbered os n ≡ x → option_map outlined x ≡ Some q → placed_from n os ≡ map (placed q.extent) (real_of x) ++ placed_from (n + 1) os
by_outline n os None q h e k = let z : ◌≡◌ {A = ℕ} 0 1 = cc in absurd (omega arith)
by_outline n os (Some p) q h e k =
    let is : outlined p ≡ q = cc in
    next_first n os p h e ∙ ap (λ (r : Outline). map (placed r.extent) p.real ++ placed_from (n + 1) os) is

pub next_outlined : (n : ℕ) (os : List Object) (q : Outline) → n < length os → option_map outlined (numbered os n) ≡ Some q → placed_from n os ≡ map (placed q.extent) (real_of (numbered os n)) ++ placed_from (n + 1) os
next_outlined n os q h k = by_outline n os (numbered os n) q h refl k
