-- The first pass: each link has its offset exactly if all fields are known.
use Rattle.std.proofs.Common.{◌≡◌, ℕ, ◌-◌, ◌≤◌, ◌&&◌, List, [], ◌∷◌, map, is_some, Some, None, Option, sym, refl, ap, ◌∙◌, arith}
use Rattle.std.specs.List.{list_all}
use Rattle.std.specs.Option.{option_map}
use Rattle.std.proofs.lemmas.List.Folds.{list_all-append}
use Rattle.link.specs.declared.Link.{Link}
use Rattle.model.specs.State.{State, Object, numbered}
use Rattle.model.specs.Ending.{Field, field, and_then, single, fields_of, fields}
use Rattle.offset_fields.specs.Passes.{offset_of, extent_of, placed, placed_from, field_at, reaches}
use Rattle.offset_fields.proofs.Offset.{field_is}
use Rattle.offset_fields.proofs.Way.{with_last}

both_known : (x : Option (List Field)) (y : Option (List Field)) → is_some (and_then x y) ≡ (is_some x && is_some y)
both_known None y = refl
both_known (Some x) None = refl
both_known (Some x) (Some y) = refl

single_known : (x : Option Field) → is_some (single x) ≡ is_some x
single_known None = refl
single_known (Some f) = refl

mapped_known : (f : ℕ → Field) (x : Option ℕ) → is_some (option_map f x) ≡ is_some x
mapped_known f None = refl
mapped_known f (Some v) = refl

pub links_reach : (s : State) (o : Object) (ls : List Link) → s.head ≤ s.tail → is_some (fields_of s o ls) ≡ list_all (reaches (s.tail - s.head) s.packed) (map (placed (extent_of o)) ls)
links_reach s o [] h = refl
links_reach s o (l ∷ ls) h =
    let g = s.tail - s.head in
    let p = placed (extent_of o) l in
    let here : is_some (single (field s o l (numbered s.packed l.objidx.0))) ≡ reaches g s.packed p =
    single_known _ ∙ ap is_some (field_is s o l (numbered s.packed l.objidx.0) h) ∙ mapped_known (field_at p) (offset_of g s.packed p) in
    let more = links_reach s o ls h in
    both_known (single (field s o l (numbered s.packed l.objidx.0))) (fields_of s o ls) ∙ (λ i. here i && more i)

pub objects_reach : (s : State) (os : List Object) → s.head ≤ s.tail → is_some (fields s os) ≡ list_all (reaches (s.tail - s.head) s.packed) (placed_from 0 os)
objects_reach s [] h = refl
objects_reach s (o ∷ os) h =
    let test = reaches (s.tail - s.head) s.packed in
    let before = objects_reach s os h in
    let here = links_reach s o o.real h in
    both_known (fields s os) (fields_of s o o.real)
    ∙ (λ i. before i && here i)
    ∙ sym (list_all-append test (placed_from 0 os) (map (placed (extent_of o)) o.real))
    ∙ ap (list_all test) (sym (with_last 0 o os (omega arith)))
