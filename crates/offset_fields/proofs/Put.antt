-- The second pass: the fields of all objects, one by one.
use Rattle.std.proofs.Common.{◌≡◌, ℕ, ◌-◌, ◌≤◌, true, false, List, [], ◌∷◌, ◌++◌, map, is_some, Some, None, Option, sym, refl, ap, ◌∙◌, arith}
use Rattle.std.specs.List.{fold, list_all}
use Rattle.std.proofs.lemmas.List.Sums.{fold-append}
use Rattle.std.specs.Option.{option_map}
use Rattle.std.proofs.lemmas.Bool.{true≢false, false≢true}
use Rattle.cursor.specs.Flags.{other}
use Rattle.link.specs.declared.Link.{Link}
use Rattle.model.specs.State.{State, Object, numbered, flag}
use Rattle.model.specs.Ending.{Field, field, and_then, single, fields_of, fields, put_field, put_fields, resolved}
use Rattle.offset_fields.specs.Passes.{offset_of, extent_of, placed, placed_from, field_at, reaches, put, put_link}
use Rattle.offset_fields.proofs.Offset.{field_is}
use Rattle.offset_fields.proofs.Reach.{objects_reach}
use Rattle.offset_fields.proofs.Way.{with_last}

record First (x : Option Field) (y : Option (List Field)) (fs : List Field) : Type 0 where
  f : Field
  es : List Field
  is_f : x ≡ Some f
  is_es : y ≡ Some es
  all : fs ≡ f ∷ es

first_of : (x : Option Field) (y : Option (List Field)) (fs : List Field) → and_then (single x) y ≡ Some fs → First x y fs
first_of None y fs e = let z : ◌≡◌ {A = ℕ} 0 1 = cc in absurd (omega arith)
first_of (Some f) None fs e = let z : ◌≡◌ {A = ℕ} 0 1 = cc in absurd (omega arith)
first_of (Some f) (Some es) fs e = record { f = f; es = es; is_f = refl; is_es = refl; all = cc }

record Both (x y : Option (List Field)) (fs : List Field) : Type 0 where
  ds : List Field
  es : List Field
  is_ds : x ≡ Some ds
  is_es : y ≡ Some es
  all : fs ≡ ds ++ es

both_of : (x y : Option (List Field)) (fs : List Field) → and_then x y ≡ Some fs → Both x y fs
both_of None y fs e = let z : ◌≡◌ {A = ℕ} 0 1 = cc in absurd (omega arith)
both_of (Some ds) None fs e = let z : ◌≡◌ {A = ℕ} 0 1 = cc in absurd (omega arith)
both_of (Some ds) (Some es) fs e = record { ds = ds; es = es; is_ds = refl; is_es = refl; all = cc }

put_more : (ds es : List Field) (s : State) → put_fields (ds ++ es) s ≡ put_fields es (put_fields ds s)
put_more [] es s = refl
put_more (d ∷ ds) es s = put_more ds es (put_field d s)

-- s₀ says where the objects lie, and the fields are written into s
links_put : (s₀ : State) (o : Object) (ls : List Link) (fs : List Field) (s : State) → s₀.head ≤ s₀.tail → fields_of s₀ o ls ≡ Some fs → fold (put_link (s₀.tail - s₀.head) s₀.packed) s (map (placed (extent_of o)) ls) ≡ put_fields fs s
links_put s₀ o [] fs s h e = let z : [] ≡ fs = cc in ap (λ (fs : List Field). put_fields fs s) z
links_put s₀ o (l ∷ ls) fs s h e =
    let g = s₀.tail - s₀.head in
    let x = numbered s₀.packed l.objidx.0 in
    let p = first_of (field s₀ o l x) (fields_of s₀ o ls) fs e in
    let at = placed (extent_of o) l in
    let known : option_map (field_at at) (offset_of g s₀.packed at) ≡ Some p.f = sym (field_is s₀ o l x h) ∙ p.is_f in
    links_put s₀ o ls p.es (put_link g s₀.packed s at) h p.is_es
    ∙ ap (λ (y : Option Field). put_fields p.es (put y s)) known
    ∙ sym (ap (λ (fs : List Field). put_fields fs s) p.all)

objects_put : (s₀ : State) (os : List Object) (fs : List Field) (s : State) → s₀.head ≤ s₀.tail → fields s₀ os ≡ Some fs → fold (put_link (s₀.tail - s₀.head) s₀.packed) s (placed_from 0 os) ≡ put_fields fs s
objects_put s₀ [] fs s h e = let z : [] ≡ fs = cc in ap (λ (fs : List Field). put_fields fs s) z
objects_put s₀ (o ∷ os) fs s h e =
    let step = put_link (s₀.tail - s₀.head) s₀.packed in
    let p = both_of (fields s₀ os) (fields_of s₀ o o.real) fs e in
    let its = map (placed (extent_of o)) o.real in
    ap (fold step s) (with_last 0 o os (omega arith))
    ∙ fold-append step s (placed_from 0 os) its
    ∙ ap (λ (t : State). fold step t its) (objects_put s₀ os p.ds s h p.is_ds)
    ∙ links_put s₀ o o.real p.es (put_fields p.ds s) h p.is_es
    ∙ sym (put_more p.ds p.es s)
    ∙ sym (ap (λ (fs : List Field). put_fields fs s) p.all)

-- ---- both passes

unknown : (x : Option (List Field)) (s : State) → is_some x ≡ false → resolved x s ≡ flag s other
unknown None s e = refl
unknown (Some fs) s e = absurd (true≢false e)

pub not_reached : (s : State) → s.head ≤ s.tail → list_all (reaches (s.tail - s.head) s.packed) (placed_from 0 s.packed) ≡ false → flag s other ≡ resolved (fields s s.packed) s
not_reached s h e = sym (unknown (fields s s.packed) s (objects_reach s s.packed h ∙ e))

known : (s t : State) (x : Option (List Field)) → is_some x ≡ true → ((fs : List Field) → x ≡ Some fs → t ≡ put_fields fs s) → t ≡ resolved x s
known s t None e k = absurd (false≢true e)
known s t (Some fs) e k = k fs refl

pub reached : (s : State) → s.head ≤ s.tail → list_all (reaches (s.tail - s.head) s.packed) (placed_from 0 s.packed) ≡ true → fold (put_link (s.tail - s.head) s.packed) s (placed_from 0 s.packed) ≡ resolved (fields s s.packed) s
reached s h e = known s _ (fields s s.packed) (objects_reach s s.packed h ∙ e) (λ fs k. objects_put s s.packed fs s h k)
