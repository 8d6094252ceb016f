-- A slot taken from the top of a stack, or put on one: the fields stay sound, and what the objects are then.
use Rattle.std.proofs.Common.{◌≡◌, ℕ, ◌+◌, ◌*◌, ◌≤◌, List, [], ◌∷◌, ◌++◌, length, get_or, set, reverse, replicate, IfSome, Some, None, Option, sym, refl, ap, ◌∙◌, arith, MatchOption}
use Rattle.std.proofs.lemmas.List.{get_or-set_same, length-set, length_push, nil_from_length}
use Rattle.std.specs.Option.{option_map, option_to_list}
use Rattle.link.specs.declared.Link.{Link}
use Rattle.link.specs.declared.PoolIdx.{PoolIdx}
use Rattle.links.specs.Walk.{sum_of}
use Rattle.model.specs.State.{Object, Pool}
use Rattle.objects.specs.declared.extents.Extent.{Extent}
use Rattle.objects.specs.Slots.{occ, held}
use Rattle.objects.specs.Contents.{Contents, Parts, meaning, built, in_slot, stacked, nowhere}
use Rattle.objects.specs.Change.{first, behind, fresh}
use Rattle.objects.specs.Loose.{Loose}
use Rattle.objects.proofs.Count.{here, occ_top}
use Rattle.objects.proofs.Sound.{Sound, Restacked, lighter, loosened, heavier}
use Rattle.objects.proofs.Frame.{frame_extent, stacked_top, none_linked}

-- equal parts, equal contents
pub same_contents : {os qs ps rs : List Object} {p q : Pool} → os ≡ qs → ps ≡ rs → p ≡ q → ◌≡◌ {A = Contents} (record { opened = os; packed = ps; pool = p }) (record { opened = qs; packed = rs; pool = q })
same_contents e f g = λ i. record { opened = e i; packed = f i; pool = g i }

-- no slot and no cell in use
pub idle_means : (es : List Extent) (ls : List (List Link)) (os ps rs : List PoolIdx) (n m slots cells k : ℕ) → ls ≡ replicate k [] → os ≡ [] → ps ≡ [] → rs ≡ [] → n ≡ slots → m ≡ cells
    → meaning (record { extents = es; links = ls; opened = os; packed = ps; released = rs; used = 0; slots = n; cells = m }) ≡ fresh slots cells
idle_means es ls os ps rs n m slots cells k e o p r s c =
    let z : sum_of length ls ≡ 0 = ap (sum_of length) e ∙ none_linked k in
    same_contents (ap (stacked es ls) o) (ap (stacked es ls) p) (λ i. record { released = reverse (r i); used = 0; slots = s i; linked = z i; cells = c i })

-- ---- the top of a stack

-- a stack xs, without its top r, is ys
abbrev pub Pop : List PoolIdx → List PoolIdx → Option PoolIdx → Type 0
Pop xs ys r = MatchOption r ((xs ≡ []) × (ys ≡ [])) (λ x. xs ≡ ys ++ x ∷ [])

pub pop_is : (xs ys : List PoolIdx) (n m : ℕ) (r : Option PoolIdx) → n ≡ length xs → m ≡ length ys → xs ≡ ys ++ option_to_list r → MatchOption r ((n ≡ 0) × (m ≡ 0)) (λ _. m + 1 ≡ n) → Pop xs ys r
pop_is xs ys n m (Some x) a b e c = e
pop_is xs ys n m None a b e c = (nil_from_length xs (omega (arith, c.0)), nil_from_length ys (omega (arith, c.1)))

-- the object on top, and those below it
pub first_is : (es : List Extent) (ls : List (List Link)) (xs ys : List PoolIdx) (r : Option PoolIdx) → Pop xs ys r → option_map (in_slot es ls) r ≡ first (stacked es ls xs)
first_is es ls xs ys (Some x) e = sym (ap first (stacked_top es ls xs ys x e))
first_is es ls xs ys None e = sym (ap (λ (v : List PoolIdx). first (stacked es ls v)) e.0)

pub behind_is : (es : List Extent) (ls : List (List Link)) (xs ys : List PoolIdx) (r : Option PoolIdx) → Pop xs ys r → stacked es ls ys ≡ behind (stacked es ls xs)
behind_is es ls xs ys (Some x) e = sym (ap behind (stacked_top es ls xs ys x e))
behind_is es ls xs ys None e = ap (stacked es ls) e.1 ∙ sym (ap (λ (v : List PoolIdx). behind (stacked es ls v)) e.0)

pop_occ : (xs ys : List PoolIdx) (r : Option PoolIdx) → Pop xs ys r → (k : ℕ) → occ k ys ≤ occ k xs
pop_occ xs ys (Some x) e k = omega (arith, occ_top k xs ys x e)
pop_occ xs ys None e k = omega (arith, ap (occ k) e.0, ap (occ k) e.1)

pop_length : (xs ys : List PoolIdx) (r : Option PoolIdx) → Pop xs ys r → length ys ≤ length xs
pop_length xs ys (Some x) e = omega (arith, ap length e, length_push ys x)
pop_length xs ys None e = omega (arith, ap length e.0, ap length e.1)

top_occ : (xs ys : List PoolIdx) (x : PoolIdx) → xs ≡ ys ++ x ∷ [] → occ x.0 xs ≡ occ x.0 ys + 1
top_occ xs ys x e = omega (arith, occ_top x.0 xs ys x e, here x.0)

top_length : (xs ys : List PoolIdx) (x : PoolIdx) → xs ≡ ys ++ x ∷ [] → length xs ≡ length ys + 1
top_length xs ys x e = ap length e ∙ length_push ys x

-- ---- taking a slot from a stack

abbrev pub with_opened : Parts → List PoolIdx → Parts
with_opened p os = record { extents = p.extents; links = p.links; opened = os; packed = p.packed; released = p.released; used = p.used; slots = p.slots; cells = p.cells }

abbrev pub with_packed : Parts → List PoolIdx → Parts
with_packed p ps = record { extents = p.extents; links = p.links; opened = p.opened; packed = ps; released = p.released; used = p.used; slots = p.slots; cells = p.cells }

abbrev pub with_released : Parts → List PoolIdx → Parts
with_released p rs = record { extents = p.extents; links = p.links; opened = p.opened; packed = p.packed; released = rs; used = p.used; slots = p.slots; cells = p.cells }

restacked : (p q : Parts) → q.extents ≡ p.extents → q.links ≡ p.links → q.used ≡ p.used → q.slots ≡ p.slots → Restacked p q
restacked p q e l u s = record { extents = ap length e; links = l; used = u; slots = s }

module _ (p : Parts) (w : Sound p) (ys : List PoolIdx) (r : Option PoolIdx) where
  pub popped_opened : Pop p.opened ys r → Sound (with_opened p ys)
  popped_opened e =
      lighter p (with_opened p ys) w (restacked p (with_opened p ys) refl refl refl refl) (λ k. omega (arith, pop_occ p.opened ys r e k)) (omega (arith, pop_length p.opened ys r e)) (λ k. omega arith)

  pub popped_packed : Pop p.packed ys r → Sound (with_packed p ys)
  popped_packed e =
      lighter p (with_packed p ys) w (restacked p (with_packed p ys) refl refl refl refl) (λ k. omega (arith, pop_occ p.packed ys r e k)) (omega (arith, pop_length p.packed ys r e)) (λ k. omega arith)

  pub popped_released : Pop p.released ys r → Sound (with_released p ys)
  popped_released e =
      lighter p (with_released p ys) w (restacked p (with_released p ys) refl refl refl refl) (λ k. omega (arith, pop_occ p.released ys r e k)) (omega (arith, pop_length p.released ys r e)) (pop_occ p.released ys r e)

pub loose_opened : (p : Parts) (ys : List PoolIdx) (r : Option PoolIdx) → Sound p → Pop p.opened ys r → IfSome r (λ x. Loose (with_opened p ys) x)
loose_opened p ys (Some x) w e = loosened p (with_opened p ys) x w refl (omega (arith, top_occ p.opened ys x e)) (omega (arith, top_length p.opened ys x e))
loose_opened p ys None w e = tt

pub loose_packed : (p : Parts) (ys : List PoolIdx) (r : Option PoolIdx) → Sound p → Pop p.packed ys r → IfSome r (λ x. Loose (with_packed p ys) x)
loose_packed p ys (Some x) w e = loosened p (with_packed p ys) x w refl (omega (arith, top_occ p.packed ys x e)) (omega (arith, top_length p.packed ys x e))
loose_packed p ys None w e = tt

pub loose_released : (p : Parts) (ys : List PoolIdx) (x : PoolIdx) → Sound p → p.released ≡ ys ++ x ∷ [] → Loose (with_released p ys) x
loose_released p ys x w e = loosened p (with_released p ys) x w refl (omega (arith, top_occ p.released ys x e)) (omega (arith, top_length p.released ys x e))

-- a released slot has no links
pub released_blank : (p : Parts) (ys : List PoolIdx) (x : PoolIdx) → Sound p → p.released ≡ ys ++ x ∷ [] → held p.links x.0 ≡ 0
released_blank p ys x w e = w.blank x.0 (omega (arith, top_occ p.released ys x e))

-- ---- putting a slot on a stack, with an extent

abbrev pub opened_at : Parts → PoolIdx → Extent → List PoolIdx → Parts
opened_at p x e os = record { extents = set p.extents x.0 e; links = p.links; opened = os; packed = p.packed; released = p.released; used = p.used; slots = p.slots; cells = p.cells }

abbrev pub packed_at : Parts → PoolIdx → Extent → List PoolIdx → Parts
packed_at p x e ps = record { extents = set p.extents x.0 e; links = p.links; opened = p.opened; packed = ps; released = p.released; used = p.used; slots = p.slots; cells = p.cells }

module _ (p : Parts) (w : Sound p) (x : PoolIdx) (l : Loose p x) (e : Extent) where
  pub pushed_opened : (os : List PoolIdx) → os ≡ p.opened ++ x ∷ [] → Sound (opened_at p x e os)
  pushed_opened os f =
      heavier p (opened_at p x e os) x w (record { extents = length-set p.extents x.0 e; links = refl; used = refl; slots = refl }) l (λ k. omega (arith, occ_top k os p.opened x f)) (omega (arith, top_length os p.opened x f)) w.blank

  pub pushed_packed : (ps : List PoolIdx) → ps ≡ p.packed ++ x ∷ [] → Sound (packed_at p x e ps)
  pushed_packed ps f =
      heavier p (packed_at p x e ps) x w (record { extents = length-set p.extents x.0 e; links = refl; used = refl; slots = refl }) l (λ k. omega (arith, occ_top k ps p.packed x f)) (omega (arith, top_length ps p.packed x f)) w.blank

  -- the object that is on top then; those of other stacks are as they were, by `frame_extent`
  pub laid_top : (xs ys : List PoolIdx) → ys ≡ xs ++ x ∷ [] → occ x.0 xs ≡ 0
      → stacked (set p.extents x.0 e) p.links ys ≡ built x e (get_or p.links (2 * x.0) []) (get_or p.links (2 * x.0 + 1) []) ∷ stacked p.extents p.links xs
  laid_top xs ys f o =
      stacked_top (set p.extents x.0 e) p.links ys xs x f
      ∙ ap (λ (v : Extent). built x v (get_or p.links (2 * x.0) []) (get_or p.links (2 * x.0 + 1) []) ∷ stacked (set p.extents x.0 e) p.links xs)
      (get_or-set_same p.extents x.0 e nowhere (omega (arith, l.taken, w.roomy, w.sized)))
      ∙ ap (λ (v : List Object). built x e (get_or p.links (2 * x.0) []) (get_or p.links (2 * x.0 + 1) []) ∷ v) (frame_extent p.extents p.links xs x.0 e o)
