-- A slot emptied and released, and a slot taken for a new object.
use Rattle.std.proofs.Common.{◌≡◌, ℕ, ◌+◌, ◌-◌, ◌*◌, ◌<◌, Bool, true, ltb, List, [], ◌∷◌, ◌++◌, reverse, length, get_or, set, sym, refl, ap, ◌∙◌, subst, inl, inr, add-one, arith}
use Rattle.std.proofs.lemmas.List.{get_or-set_same, get_or-set_other, length-set, length_push, reverse-append}
use Rattle.std.proofs.lemmas.Bool.{cases_eq}
use Rattle.link.specs.declared.Link.{Link}
use Rattle.link.specs.declared.PoolIdx.{PoolIdx}
use Rattle.links.specs.Walk.{sum_of}
use Rattle.model.specs.State.{Pool, slot_free, slot_next, slot_taken}
use Rattle.objects.specs.Slots.{held}
use Rattle.objects.specs.Contents.{Parts, meaning, in_slot}
use Rattle.objects.specs.Change.{takes, releases}
use Rattle.objects.specs.Loose.{Loose}
use Rattle.objects.proofs.Count.{there, occ_top}
use Rattle.objects.proofs.Sound.{Sound, with_used, used_sound, used_loose, heavier}
use Rattle.objects.proofs.Frame.{Touch, touch, touch_twice, frame_links, with_links, touched, sum_set}
use Rattle.objects.proofs.Stack.{same_contents, with_released}

pub reverse_top : (xs ys : List PoolIdx) (x : PoolIdx) → xs ≡ ys ++ x ∷ [] → reverse xs ≡ x ∷ reverse ys
reverse_top xs ys x e = ap reverse e ∙ reverse-append ys (x ∷ [])

-- ---- releasing

-- the lists with those of a slot emptied
abbrev pub emptied : List (List Link) → ℕ → List (List Link)
emptied ls x = set (set ls (2 * x) []) (2 * x + 1) []

emptied_touch : (ls : List (List Link)) (x : ℕ) → Touch x ls (emptied ls x)
emptied_touch ls x = touch_twice (touch ls x (2 * x) [] (omega arith) (omega arith)) (touch (set ls (2 * x) []) x (2 * x + 1) [] (omega arith) (omega arith))

emptied_sum : (ls : List (List Link)) (x : ℕ) → 2 * x + 1 < length ls → sum_of length (emptied ls x) ≡ sum_of length ls - held ls x
emptied_sum ls x h =
    let a = sum_set ls (2 * x) [] (omega arith) in
    let b = sum_set (set ls (2 * x) []) (2 * x + 1) [] (omega (arith, length-set ls (2 * x) [])) in
    let c = ap {B = ℕ} length (get_or-set_other ls (2 * x) (2 * x + 1) [] [] (λ z. omega arith)) in
    omega arith

emptied_held : (ls : List (List Link)) (x : ℕ) → 2 * x + 1 < length ls → held (emptied ls x) x ≡ 0
emptied_held ls x h =
    let p : get_or (emptied ls x) (2 * x) [] ≡ [] = get_or-set_other (set ls (2 * x) []) (2 * x + 1) (2 * x) [] [] (λ z. omega arith) ∙ get_or-set_same ls (2 * x) [] [] (omega arith) in
    let q : get_or (emptied ls x) (2 * x + 1) [] ≡ [] = get_or-set_same (set ls (2 * x) []) (2 * x + 1) [] [] (omega (arith, length-set ls (2 * x) [])) in
    omega (arith, ap {B = ℕ} length p, ap {B = ℕ} length q)

-- two lists cleared one after the other
pub emptied_is : (ls ms ks : List (List Link)) (j k x : ℕ) → ms ≡ set ls j [] → ks ≡ set ms k [] → j ≡ 2 * x → k ≡ 2 * x + 1 → ks ≡ emptied ls x
emptied_is ls ms ks j k x e f g h = f ∙ ap (λ (v : List (List Link)). set v k []) e ∙ ap (λ (i : ℕ). set (set ls i []) k []) g ∙ ap (λ (i : ℕ). set (set ls (2 * x) []) i []) h

-- the fields after a release
abbrev pub released_at : Parts → List (List Link) → List PoolIdx → ℕ → Parts
released_at p ks rs n = with_released (with_links p ks n) rs

module _ (p : Parts) (w : Sound p) (x : PoolIdx) (l : Loose p x) (ks : List (List Link)) (f : ks ≡ emptied p.links x.0) (rs : List PoolIdx) (e : rs ≡ p.released ++ x ∷ []) (n : ℕ) where
  in_lists : 2 * x.0 + 1 < length p.links
  in_lists = omega (arith, l.taken, w.roomy, w.paired)

  cleared : Touch x.0 p.links ks
  cleared = subst (Touch x.0 p.links) (sym f) (emptied_touch p.links x.0)

  pub released_sound : Sound (released_at p ks rs n)
  released_sound =
      let q : Parts = with_links p ks n in
      let v : Sound q = touched p x.0 ks n w l.taken l.not_released cleared in
      let l' : Loose q x = record { taken = l.taken; not_open = l.not_open; not_packed = l.not_packed; not_released = l.not_released; spare = l.spare } in
      heavier q (released_at p ks rs n) x v (record { extents = refl; links = refl; used = refl; slots = refl }) l' (λ k. omega (arith, occ_top k rs p.released x e)) (omega (arith, ap length e, length_push p.released x))
      (λ k h. elim (cases_eq k x.0) [
        | inl z ↦ ap (λ (m : ℕ). held ks m) z ∙ ap (λ (v : List (List Link)). held v x.0) f ∙ emptied_held p.links x.0 in_lists
        | inr z ↦ v.blank k (omega (arith, occ_top k rs p.released x e, there k x.0 z))
      ])

  pub released_means : n ≡ p.cells → meaning (released_at p ks rs n) ≡ releases (in_slot p.extents p.links x) (meaning p)
  released_means c =
      let s = ap (sum_of length) f ∙ emptied_sum p.links x.0 in_lists in
      let r = reverse_top rs p.released x e in
      same_contents (frame_links p.extents p.links ks p.opened x.0 cleared l.not_open) (frame_links p.extents p.links ks p.packed x.0 cleared l.not_packed)
      (λ i. record { released = r i; used = p.used; slots = p.slots; linked = s i; cells = c i })

-- ---- taking

abbrev pooled : Parts → List PoolIdx → Pool
pooled p rs = record { released = rs; used = p.used; slots = p.slots; linked = sum_of length p.links; cells = p.cells }

-- the slot released last
module _ (p : Parts) (ys : List PoolIdx) (x : PoolIdx) (e : p.released ≡ ys ++ x ∷ []) where
  pub old_free : true ≡ slot_free (meaning p).pool
  old_free = sym (ap (λ (v : List PoolIdx). slot_free (pooled p v)) (reverse_top p.released ys x e))

  pub old_next : x ≡ slot_next (meaning p).pool
  old_next = sym (ap (λ (v : List PoolIdx). slot_next (pooled p v)) (reverse_top p.released ys x e))

  pub old_taken : meaning (with_released p ys) ≡ takes (meaning p)
  old_taken = same_contents refl refl (sym (ap (λ (v : List PoolIdx). slot_taken (pooled p v)) (reverse_top p.released ys x e)))

-- nothing is released: the same stack
pub same_released : (p : Parts) (ys : List PoolIdx) → ys ≡ p.released → meaning (with_released p ys) ≡ meaning p
same_released p ys e = ap (λ (v : List PoolIdx). meaning (with_released p v)) e

-- the lowest never used
pub new_loose : (p : Parts) (ys : List PoolIdx) → Sound p → ys ≡ p.released → Loose (with_released (with_used p (p.used + 1)) ys) (record { 0 = p.used })
new_loose p ys w e = subst (λ (v : List PoolIdx). Loose (with_released (with_used p (p.used + 1)) v) (record { 0 = p.used })) (sym e) (used_loose p w)

pub new_sound : (p : Parts) (ys : List PoolIdx) → Sound p → p.used < p.slots → ys ≡ p.released → Sound (with_released (with_used p (p.used + 1)) ys)
new_sound p ys w h e = subst (λ (v : List PoolIdx). Sound (with_released (with_used p (p.used + 1)) v)) (sym e) (used_sound p w h)

module _ (p : Parts) (ys : List PoolIdx) (e : p.released ≡ []) where
  pub new_free : (b : Bool) → ltb p.used p.slots ≡ b → b ≡ slot_free (meaning p).pool
  new_free b q = sym (ap (λ (v : List PoolIdx). slot_free (pooled p (reverse v))) e ∙ q)

  pub new_next : record { 0 = p.used } ≡ slot_next (meaning p).pool
  new_next = sym (ap (λ (v : List PoolIdx). slot_next (pooled p (reverse v))) e)

  pub new_taken : ys ≡ [] → meaning (with_released (with_used p (p.used + 1)) ys) ≡ takes (meaning p)
  new_taken f =
      same_contents refl refl
      (ap (λ (v : List PoolIdx). record { released = reverse v; used = p.used + 1; slots = p.slots; linked = sum_of length p.links; cells = p.cells }) f
      ∙ ap (λ (m : ℕ). record { released = []; used = m; slots = p.slots; linked = sum_of length p.links; cells = p.cells }) (add-one p.used)
      ∙ sym (ap (λ (v : List PoolIdx). slot_taken (pooled p (reverse v))) e))
