-- The offset of a link, measured from its base, is the value of its field.
use Rattle.std.proofs.Common.{◌≡◌, ℕ, ◌+◌, ◌-◌, ◌≤◌, Bool, true, false, cond, ltb, Some, None, Option, refl, ◌∙◌, arith}
use Rattle.std.specs.Option.{option_map}
use Rattle.std.proofs.lemmas.Bool.Decides.{nat_tests}
use Rattle.link.specs.declared.Link.{Link}
use Rattle.link.specs.declared.OffsetWhence.{OffsetWhence}
use Rattle.link.specs.declared.OffsetWhence.TheVariants.{Head, Tail, Absolute}
use Rattle.model.specs.State.{State, Object}
use Rattle.model.specs.Ending.{Field, reach, field}
use Rattle.objects.specs.Change.{outlined}
use Rattle.offset_fields.specs.Passes.{beyond, base, offset_to, extent_of, placed, field_at}

test_in : (t : Bool) (f : ℕ → Field) (v : ℕ) → ◌≡◌ {A = Option Field} (elim t [ true ↦ None | false ↦ Some (f v) ]) (option_map f (cond t None (Some v)))
test_in true f v = refl
test_in false f v = refl

-- the free bytes taken from both sides
free_test : (h t a b : ℕ) → h ≤ t → ltb (h + a) (t + b) ≡ ltb a (t - h + b)
free_test h t a b k = grind (arith, nat_tests)

free_less : (h t a b : ℕ) → h ≤ t → h + a - (t + b) ≡ a - (t - h + b)
free_less h t a b k = omega arith

by_whence : (s : State) (w : OffsetWhence) (o c : Object) (b : ℕ) (f : ℕ → Field) → s.head ≤ s.tail →
    ◌≡◌ {A = Option Field} (elim (ltb (reach s w o c).0 ((reach s w o c).1 + b)) [ true ↦ None | false ↦ Some (f ((reach s w o c).0 - ((reach s w o c).1 + b))) ])
    (option_map f (beyond c.head (base (s.tail - s.head) (extent_of o) w + b)))
by_whence s Head o c b f h = test_in (ltb c.head (o.head + b)) f (c.head - (o.head + b))
by_whence s Tail o c b f h = test_in (ltb c.head (o.tail + b)) f (c.head - (o.tail + b))
by_whence s Absolute o c b f h =
    let t = free_test s.head s.tail c.head b h in
    let v = free_less s.head s.tail c.head b h in
    test_in (ltb (s.head + c.head) (s.tail + b)) f (s.head + c.head - (s.tail + b)) ∙ (λ i. option_map f (cond (t i) None (Some (v i))))

pub field_is : (s : State) (o : Object) (l : Link) (c : Option Object) → s.head ≤ s.tail →
    field s o l c ≡ option_map (field_at (placed (extent_of o) l)) (offset_to (s.tail - s.head) (placed (extent_of o) l) (option_map outlined c))
field_is s o l None h = refl
field_is s o l (Some c) h = by_whence s l.whence o c l.bias (field_at (placed (extent_of o) l)) h
