-- Where the slot of an object stands on its stack, and the object that is meant.
use Rattle.std.proofs.Common.{◌≡◌, ℕ, zero, suc, ◌+◌, ◌-◌, ◌<◌, ◌≤◌, Bool, true, false, eqb, List, [], ◌∷◌, ◌++◌, map, length, IfSome, Some, None, Option, sym, refl, ap, ◌∙◌, arith}
use Rattle.std.specs.List.{slice_get}
use Rattle.std.specs.Option.{option_map, option_copied}
use Rattle.std.specs.Slice.{IsItemAt}
use denote.Ref.{Bor}
use Rattle.std.proofs.lemmas.List.{length-map, length-reverse, length-append}
use Rattle.std.proofs.lemmas.Option.{slice_get_read, slice_get_past}
use Rattle.std.proofs.lemmas.Bool.{eq-eqb, ne_eqb}
use Rattle.link.specs.declared.Link.{Link}
use Rattle.link.specs.declared.PoolIdx.{PoolIdx}
use Rattle.model.specs.State.{Object, numbered}
use Rattle.objects.specs.declared.extents.Extent.{Extent}
use Rattle.objects.specs.declared.state.Objects.{Objects}
use Rattle.objects.specs.declared.extents.Which.{Which}
use Rattle.objects.specs.declared.extents.Which.TheVariants.{Innermost, LastPacked, Numbered}
use Rattle.objects.specs.Slots.{occ}
use Rattle.objects.specs.Contents.{Parts, parts, meaning, in_slot, stacked, contents, object_at}
use Rattle.objects.specs.Change.{first, chosen}
use Rattle.objects.specs.Steps.{at_first, at_number}
use Rattle.objects.specs.Loose.{slot_at}
use Rattle.objects.proofs.Count.{here, occ_split}
use Rattle.objects.proofs.Sound.{Sound, sound, once}
use Rattle.objects.proofs.Frame.{stacked_split}

-- x stands at the place k: what is below it, and what above
pub record At (xs : List PoolIdx) (k : ℕ) (x : PoolIdx) : Type 0 where
  pub below : List PoolIdx
  pub above : List PoolIdx
  pub is : xs ≡ below ++ x ∷ above
  pub place : length below ≡ k

pub at : (xs : List PoolIdx) (k : ℕ) (x : PoolIdx) → slice_get xs k ≡ Some x → At xs k x
at [] k x e = absurd (cc)
at (y ∷ ys) zero x e = let f : y ≡ x = cc in record { below = []; above = ys; is = ap (λ (z : PoolIdx). z ∷ ys) f; place = refl }
at (y ∷ ys) (suc k) x e = let a = at ys k x e in record { below = y ∷ a.below; above = a.above; is = ap (λ (v : List PoolIdx). y ∷ v) a.is; place = ap suc a.place }

past : (xs : List PoolIdx) (k : ℕ) → slice_get xs k ≡ None → length xs ≤ k
past [] k e = omega arith
past (y ∷ ys) zero e = absurd (cc)
past (y ∷ ys) (suc k) e = omega (arith, past ys k e)

-- what a slice lends of the place k
pub slice_at : (xs : List PoolIdx) (k : ℕ) (r : Option (Bor PoolIdx)) → IsItemAt xs k r → option_copied r ≡ slice_get xs k
slice_at xs k (Some b) e = sym (slice_get_read xs (length xs) k b.now refl e.3.0 e.1)
slice_at xs k None e = sym (slice_get_past xs k e.3)

pub at_occ : (xs : List PoolIdx) (k : ℕ) (x : PoolIdx) → slice_get xs k ≡ Some x → 0 < occ x.0 xs
at_occ xs k x e = let a = at xs k x e in omega (arith, ap (occ x.0) a.is, occ_split x.0 a.below x a.above, here x.0)

-- ---- the object of a number, among objects of which the last stands first

pub stacked_length : (es : List Extent) (ls : List (List Link)) (xs : List PoolIdx) → length (stacked es ls xs) ≡ length xs
stacked_length es ls xs = length-reverse (map (in_slot es ls) xs) ∙ length-map xs (in_slot es ls)

module _ (o : Object) (ws : List Object) (k : ℕ) (e : length ws ≡ k) where
  deep : (zs : List Object) → eqb (length (zs ++ o ∷ ws)) k ≡ false
  deep zs = ne_eqb (length (zs ++ o ∷ ws)) k (λ q. omega (arith, length-append zs (o ∷ ws)))

  numbered_split : (zs : List Object) → numbered (zs ++ o ∷ ws) k ≡ Some o
  numbered_split [] = ap (λ (t : Bool). elim t [ true ↦ Some o | false ↦ numbered ws k ]) (eq-eqb (length ws) k e)
  numbered_split (z ∷ zs) = ap (λ (t : Bool). elim t [ true ↦ Some z | false ↦ numbered (zs ++ o ∷ ws) k ]) (deep zs) ∙ numbered_split zs

  pub changed_split : (f : Object → Object) (zs : List Object) → at_number f k (zs ++ o ∷ ws) ≡ zs ++ f o ∷ ws
  changed_split f [] = ap (λ (t : Bool). elim t [ true ↦ f o ∷ ws | false ↦ o ∷ at_number f k ws ]) (eq-eqb (length ws) k e)
  changed_split f (z ∷ zs) =
      ap (λ (t : Bool). elim t [ true ↦ f z ∷ (zs ++ o ∷ ws) | false ↦ z ∷ at_number f k (zs ++ o ∷ ws) ]) (deep zs) ∙ ap (λ (v : List Object). z ∷ v) (changed_split f zs)

numbered_past : (zs : List Object) (k : ℕ) → length zs ≤ k → numbered zs k ≡ None
numbered_past [] k h = refl
numbered_past (z ∷ zs) k h = ap (λ (t : Bool). elim t [ true ↦ Some z | false ↦ numbered zs k ]) (ne_eqb (length zs) k (λ e. omega arith)) ∙ numbered_past zs k (omega arith)

numbered_is : (es : List Extent) (ls : List (List Link)) (xs : List PoolIdx) (k : ℕ) (r : Option PoolIdx) → slice_get xs k ≡ r → option_map (in_slot es ls) r ≡ numbered (stacked es ls xs) k
numbered_is es ls xs k (Some x) e =
    let a = at xs k x e in
    sym (ap (λ (v : List PoolIdx). numbered (stacked es ls v) k) a.is ∙ ap (λ (v : List Object). numbered v k) (stacked_split es ls a.below x a.above)
    ∙ numbered_split (in_slot es ls x) (stacked es ls a.below) k (stacked_length es ls a.below ∙ a.place) (stacked es ls a.above))
numbered_is es ls xs k None e = sym (numbered_past (stacked es ls xs) k (omega (arith, stacked_length es ls xs, past xs k e)))

-- the first is the one of the greatest number
top_number : (zs : List Object) → first zs ≡ numbered zs (length zs - 1)
top_number [] = refl
top_number (z ∷ zs) = sym (ap (λ (t : Bool). elim t [ true ↦ Some z | false ↦ numbered zs (length (z ∷ zs) - 1) ]) (eq-eqb (length zs) (length (z ∷ zs) - 1) (omega arith)))

pub top_changed : (f : Object → Object) (zs : List Object) → at_first f zs ≡ at_number f (length zs - 1) zs
top_changed f [] = refl
top_changed f (z ∷ zs) = sym (ap (λ (t : Bool). elim t [ true ↦ f z ∷ zs | false ↦ z ∷ at_number f (length (z ∷ zs) - 1) zs ]) (eq-eqb (length zs) (length (z ∷ zs) - 1) (omega arith)))

top_is : (es : List Extent) (ls : List (List Link)) (xs : List PoolIdx) → option_map (in_slot es ls) (slice_get xs (length xs - 1)) ≡ first (stacked es ls xs)
top_is es ls xs =
    numbered_is es ls xs (length xs - 1) _ refl ∙ ap (λ (n : ℕ). numbered (stacked es ls xs) (n - 1)) (sym (stacked_length es ls xs)) ∙ sym (top_number (stacked es ls xs))

-- ---- the object that is meant

pub meant : (w : Which) (p : Parts) → option_map (in_slot p.extents p.links) (slot_at w p) ≡ chosen w (meaning p)
meant Innermost p = top_is p.extents p.links p.opened
meant LastPacked p = top_is p.extents p.links p.packed
meant (Numbered n) p = numbered_is p.extents p.links p.packed n.0 _ refl

pub found : (s : Objects) (w : Which) (r : Option PoolIdx) → r ≡ slot_at w (parts s) → option_map (object_at s) r ≡ chosen w (contents s)
unfolding contents object_at
found s w r e = ap (option_map (in_slot (parts s).extents (parts s).links)) e ∙ meant w (parts s)

-- its slot is in use, once
pub record Stands (w : Which) (p : Parts) (x : PoolIdx) : Type 0 where
  pub taken : x.0 < p.used
  pub once : occ x.0 p.opened + occ x.0 p.packed ≡ 1
  pub not_released : occ x.0 p.released ≡ 0

pub stands : (w : Which) (p : Parts) (x : PoolIdx) → Sound p → slot_at w p ≡ Some x → Stands w p x
stands Innermost p x s e = let o = at_occ p.opened _ x e in let m = once p x.0 s (omega arith) in record { taken = m.0; once = omega (arith, m.1); not_released = omega (arith, m.1) }
stands LastPacked p x s e = let o = at_occ p.packed _ x e in let m = once p x.0 s (omega arith) in record { taken = m.0; once = omega (arith, m.1); not_released = omega (arith, m.1) }
stands (Numbered n) p x s e = let o = at_occ p.packed _ x e in let m = once p x.0 s (omega arith) in record { taken = m.0; once = omega (arith, m.1); not_released = omega (arith, m.1) }

within : (w : Which) (p : Parts) (r : Option PoolIdx) → Sound p → r ≡ slot_at w p → IfSome r (λ x. x.0 < p.used)
within w p (Some x) s e = (stands w p x s (sym e)).taken
within w p None s e = tt

pub found_within : (s : Objects) (w : Which) (r : Option PoolIdx) → r ≡ slot_at w (parts s) → IfSome r (λ x. x.0 < s.used)
found_within s w r e = within w (parts s) r (sound s) e
