-- One list of links of the object that is meant changed: the fields stay sound, and what the objects are then.
use Rattle.std.proofs.Common.{◌≡◌, ℕ, ◌+◌, ◌-◌, ◌*◌, ◌<◌, List, [], ◌∷◌, ◌++◌, reverse, length, get_or, set, Some, sym, refl, ap, ◌∙◌, arith}
use Rattle.std.specs.List.{slice_get}
use Rattle.std.proofs.lemmas.List.{get_or-set_same, get_or-set_other}
use Rattle.link.specs.declared.Link.{Link}
use Rattle.link.specs.declared.PoolIdx.{PoolIdx}
use Rattle.links.specs.Walk.{sum_of}
use Rattle.model.specs.State.{Object}
use Rattle.objects.specs.declared.extents.Extent.{Extent}
use Rattle.objects.specs.declared.extents.Kind.{Kind}
use Rattle.objects.specs.declared.extents.Kind.TheVariants.{Real, Virtual}
use Rattle.objects.specs.declared.extents.Which.{Which}
use Rattle.objects.specs.declared.extents.Which.TheVariants.{Innermost, LastPacked, Numbered}
use Rattle.objects.specs.Slots.{occ}
use Rattle.objects.specs.Contents.{Parts, meaning, in_slot, stacked, nowhere}
use Rattle.objects.specs.Kinds.{list_number, of_kind, with_kind}
use Rattle.objects.specs.Steps.{at_first, at_number, changes, counts}
use Rattle.objects.specs.Loose.{slot_at}
use Rattle.objects.proofs.Count.{here, occ_split}
use Rattle.objects.proofs.Sound.{Sound}
use Rattle.objects.proofs.Frame.{Touch, touch, frame_links, with_links, touched, stacked_split}
use Rattle.objects.proofs.Stack.{same_contents}
use Rattle.objects.proofs.Place.{at, at_occ, stacked_length, changed_split, top_changed, stands}

-- ---- one list of a slot

pub set_touch : (k : Kind) (x : PoolIdx) (ls : List (List Link)) (v : List Link) → Touch x.0 ls (set ls (list_number k x) v)
set_touch Real x ls v = touch ls x.0 (2 * x.0) v (omega arith) (omega arith)
set_touch Virtual x ls v = touch ls x.0 (2 * x.0 + 1) v (omega arith) (omega arith)

pub kind_is : (k : Kind) (x : PoolIdx) (es : List Extent) (ls : List (List Link)) → of_kind k (in_slot es ls x) ≡ get_or ls (list_number k x) []
kind_is Real x es ls = refl
kind_is Virtual x es ls = refl

pub number_in : (k : Kind) (x : PoolIdx) (n : ℕ) → 2 * x.0 + 1 < n → list_number k x < n
number_in Real x n h = omega arith
number_in Virtual x n h = h

pub set_kind : (k : Kind) (x : PoolIdx) (es : List Extent) (ls : List (List Link)) (v : List Link) → 2 * x.0 + 1 < length ls → in_slot es (set ls (list_number k x) v) x ≡ with_kind k v (in_slot es ls x)
set_kind Real x es ls v h =
    let a = get_or-set_same ls (2 * x.0) v [] (omega arith) in
    let b = get_or-set_other ls (2 * x.0) (2 * x.0 + 1) v [] (λ e. omega arith) in
    let e : Extent = get_or es x.0 nowhere in
    λ i. record { slot = x; head = e.head; tail = e.tail; real = a i; virtual = b i }
set_kind Virtual x es ls v h =
    let a = get_or-set_other ls (2 * x.0 + 1) (2 * x.0) v [] (λ e. omega arith) in
    let b = get_or-set_same ls (2 * x.0 + 1) v [] h in
    let e : Extent = get_or es x.0 nowhere in
    λ i. record { slot = x; head = e.head; tail = e.tail; real = a i; virtual = b i }

-- ---- the object in a slot changed by f, and no other

module _ (es : List Extent) (ls ks : List (List Link)) (x : PoolIdx) (t : Touch x.0 ls ks) (f : Object → Object) (e : in_slot es ks x ≡ f (in_slot es ls x)) where
  on_stack : (xs : List PoolIdx) (k : ℕ) → slice_get xs k ≡ Some x → occ x.0 xs ≡ 1 → stacked es ks xs ≡ at_number f k (stacked es ls xs)
  on_stack xs k g o =
      let a = at xs k x g in
      let n = ap (occ x.0) a.is in
      let m = occ_split x.0 a.below x a.above in
      let h = here x.0 in
      let l : length (stacked es ls a.below) ≡ k = stacked_length es ls a.below ∙ a.place in
      ap (stacked es ks) a.is ∙ stacked_split es ks a.below x a.above
      ∙ ap (λ (v : List Object). v ++ in_slot es ks x ∷ stacked es ks a.below) (frame_links es ls ks a.above x.0 t (omega arith))
      ∙ ap (λ (v : List Object). stacked es ls a.above ++ in_slot es ks x ∷ v) (frame_links es ls ks a.below x.0 t (omega arith))
      ∙ ap (λ (v : Object). stacked es ls a.above ++ v ∷ stacked es ls a.below) e
      ∙ sym (changed_split (in_slot es ls x) (stacked es ls a.below) k l f (stacked es ls a.above))
      ∙ sym (ap (λ (v : List PoolIdx). at_number f k (stacked es ls v)) a.is ∙ ap (at_number f k) (stacked_split es ls a.below x a.above))

  on_top : (xs : List PoolIdx) → slice_get xs (length xs - 1) ≡ Some x → occ x.0 xs ≡ 1 → stacked es ks xs ≡ at_first f (stacked es ls xs)
  on_top xs g o =
      on_stack xs (length xs - 1) g o ∙ ap (λ (n : ℕ). at_number f (n - 1) (stacked es ls xs)) (sym (stacked_length es ls xs)) ∙ sym (top_changed f (stacked es ls xs))

module _ (p : Parts) (s : Sound p) (x : PoolIdx) (ks : List (List Link)) (t : Touch x.0 p.links ks) (n : ℕ) where
  pub relinked_sound : (w : Which) → slot_at w p ≡ Some x → Sound (with_links p ks n)
  relinked_sound w g = let o = stands w p x s g in touched p x.0 ks n s o.taken o.not_released t

  pub relinked : (w : Which) (f : Object → Object) (m : ℕ) → slot_at w p ≡ Some x → in_slot p.extents ks x ≡ f (in_slot p.extents p.links x) → sum_of length ks ≡ m → n ≡ p.cells
      → meaning (with_links p ks n) ≡ counts m (changes w f (meaning p))
  relinked Innermost f m g e u c =
      let o = stands Innermost p x s g in
      let q = at_occ p.opened (length p.opened - 1) x g in
      same_contents (on_top p.extents p.links ks x t f e p.opened g (omega (arith, o.once))) (frame_links p.extents p.links ks p.packed x.0 t (omega (arith, o.once)))
      (λ i. record { released = reverse p.released; used = p.used; slots = p.slots; linked = u i; cells = c i })
  relinked LastPacked f m g e u c =
      let o = stands LastPacked p x s g in
      let q = at_occ p.packed (length p.packed - 1) x g in
      same_contents (frame_links p.extents p.links ks p.opened x.0 t (omega (arith, o.once))) (on_top p.extents p.links ks x t f e p.packed g (omega (arith, o.once)))
      (λ i. record { released = reverse p.released; used = p.used; slots = p.slots; linked = u i; cells = c i })
  relinked (Numbered k) f m g e u c =
      let o = stands (Numbered k) p x s g in
      let q = at_occ p.packed k.0 x g in
      same_contents (frame_links p.extents p.links ks p.opened x.0 t (omega (arith, o.once))) (on_stack p.extents p.links ks x t f e p.packed k.0 g (omega (arith, o.once)))
      (λ i. record { released = reverse p.released; used = p.used; slots = p.slots; linked = u i; cells = c i })
