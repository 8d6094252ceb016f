-- The kinds of change that a call makes to open objects, packed ones, slots and register: one case for each, so that what holds over every call is shown case by case.
use Rattle.std.proofs.Common.{◌≡◌, ℕ, ◌+◌, ◌-◌, ◌≤◌, true, false, eqb, List, [], ◌∷◌, ◌++◌, length, None, Ok, refl, ◌∙◌}
use Rattle.link.specs.declared.Link.{Link}
use Rattle.link.specs.declared.ObjIdx.{ObjIdx}
use Rattle.link.specs.Width.{bytes_of_width}
use Rattle.register.specs.Pairs.{Pairs, entered, struck}
use Rattle.scalar.specs.Place.{part}
use Rattle.model.specs.State.{State, Object, Pool, slot_free, slot_next, slot_taken, slot_back, links_of, with_linked}
use Rattle.model.specs.Declining.{flagged}
use Rattle.model.specs.Linking.{lend}
use Rattle.model.specs.Closing.{object_hash, twin, moved}
use Rattle.model.specs.Rewinding.{discard, cut_first}
use Rattle.model.specs.Run.{Call, Answer}
use Rattle.model.specs.Run.Call.{OwnerEnter, OwnerStrike}
use Rattle.model.specs.Run.Answer.{Done}
use Rattle.model.specs.Moments.{Role, role}
use Rattle.model.specs.Moments.Role.{Reverts, RevertsElsewhere, Enters, Plain}
use Rattle.model.specs.Offsets.{adds}
use Rattle.model.proofs.Split.{by_test}

-- ---- the same objects, but for virtual links

pub record Alike (p q : Object) : Type 0 where
  pub slot : q.slot ≡ p.slot
  pub head : q.head ≡ p.head
  pub tail : q.tail ≡ p.tail
  pub real : q.real ≡ p.real

abbrev pub Relent : List Object → List Object → Type 0
Relent [] [] = Unit {0}
Relent [] (q ∷ qs) = ⊥
Relent (p ∷ ps) [] = ⊥
Relent (p ∷ ps) (q ∷ qs) = Alike p q × Relent ps qs

pub alike_same : (p : Object) → Alike p p
alike_same p = record { slot = refl; head = refl; tail = refl; real = refl }

pub relent_same : (ps : List Object) → Relent ps ps
relent_same [] = tt
relent_same (p ∷ ps) = (alike_same p, relent_same ps)

pub relent_then : (ps qs rs : List Object) → Relent ps qs → Relent qs rs → Relent ps rs
relent_then [] [] [] a b = tt
relent_then [] [] (r ∷ rs) a b = b
relent_then [] (q ∷ qs) rs a b = absurd a
relent_then (p ∷ ps) [] rs a b = absurd a
relent_then (p ∷ ps) (q ∷ qs) [] a b = b
relent_then (p ∷ ps) (q ∷ qs) (r ∷ rs) a b =
    let x = a.0 in let y = b.0 in
    (record { slot = y.slot ∙ x.slot; head = y.head ∙ x.head; tail = y.tail ∙ x.tail; real = y.real ∙ x.real }, relent_then ps qs rs a.1 b.1)

pub lend_relent : (vs : List Link) (k : ℕ) (ps : List Object) → Relent ps (lend vs k ps)
lend_relent vs k [] = tt
lend_relent vs k (p ∷ ps) = by_test (eqb (length ps) k) _ _ (Relent (p ∷ ps))
    (λ e. (record { slot = refl; head = refl; tail = refl; real = refl }, relent_same ps)) (λ e. (alike_same p, lend_relent vs k ps))

-- ---- the changes

-- the call adds the link l to the object o, and is accepted
pub record Adds (c : Call) (a : Answer) (o : Object) (l : Link) : Type 0 where
  pub range_from : ℕ
  pub range_to : ℕ
  pub is : c ≡ adds l range_from range_to
  pub accepted : a ≡ Done (Ok tt)
  pub starts : range_from ≡ o.head + l.position
  pub long : range_to - range_from ≡ bytes_of_width l.width

-- the call reverts a snapshot
abbrev pub Turns : Role → Type 0
Turns (Reverts n) = Unit {0}
Turns RevertsElsewhere = Unit {0}
Turns Enters = ⊥
Turns Plain = ⊥

-- the bytes of an object
abbrev pub bytes_in : List ℕ → Object → List ℕ
bytes_in m p = part m p.head p.tail

-- the object that opening adds
abbrev pub opened_in : State → Object
opened_in s = record { slot = slot_next s.pool; head = s.head; tail = s.tail; real = []; virtual = [] }

abbrev pub with_link : Object → Link → Object
with_link o l = record { slot = o.slot; head = o.head; tail = o.tail; real = o.real ++ (l ∷ []); virtual = o.virtual }

abbrev pub with_virtual : Object → Link → Object
with_virtual o l = record { slot = o.slot; head = o.head; tail = o.tail; real = o.real; virtual = o.virtual ++ (l ∷ []) }

-- from the state s and the register r, with the call c that answers a and leaves the memory m and the head h: the open and the packed objects, the slots and the register then
pub data Effect (c : Call) (s : State) (r : Pairs) (m : List ℕ) (h : ℕ) (a : Answer) : List Object → List Object → Pool → Pairs → Type 0 where
  same : s.head ≤ h → Effect c s r m h a s.opened s.packed s.pool r
  opens : flagged s ≡ false → slot_free s.pool ≡ true → h ≡ s.head → Effect c s r m h a (opened_in s ∷ s.opened) s.packed (slot_taken s.pool) r
  links : (o : Object) (os : List Object) (l : Link) (n : ℕ) → s.opened ≡ o ∷ os → h ≡ s.head → Adds c a o l → Effect c s r m h a (with_link o l ∷ os) s.packed (with_linked s.pool n) r
  orders : (o : Object) (os : List Object) (l : Link) (n : ℕ) → s.opened ≡ o ∷ os → h ≡ s.head → Effect c s r m h a (with_virtual o l ∷ os) s.packed (with_linked s.pool n) r
  lends : (ps : List Object) (n : ℕ) → h ≡ s.head → Relent s.packed ps → Effect c s r m h a s.opened ps (with_linked s.pool n) r
  closes : (o : Object) (os : List Object) → s.opened ≡ o ∷ os → h ≡ s.head → Effect c s r m h a os s.packed s.pool r
  packs : (o : Object) (os : List Object) → s.opened ≡ o ∷ os → h ≡ o.head → Effect c s r m h a os (moved o s ∷ s.packed) s.pool r
  packs_entered : (o : Object) (os : List Object) → s.opened ≡ o ∷ os → h ≡ o.head → twin m r (object_hash m (moved o s)) (bytes_in m (moved o s)) o.real s.packed ≡ None →
      Effect c s r m h a os (moved o s ∷ s.packed) s.pool (entered r (object_hash m (moved o s)) (length s.packed))
  shares : (o : Object) (os ps : List Object) → s.opened ≡ o ∷ os → h ≡ o.head → Relent s.packed ps → Effect c s r m h a os ps (slot_back s.pool o.slot (length o.real)) r
  drops : (o : Object) (os : List Object) → s.opened ≡ o ∷ os → h ≡ s.head → Effect c s r m h a os s.packed (slot_back s.pool o.slot (links_of o)) r
  drops_back : (o : Object) (os : List Object) → s.opened ≡ o ∷ os → h ≡ o.head → m ≡ s.memory →
      Effect c s r m h a os (discard s.memory o.tail s.packed s.pool r).left (slot_back (discard s.memory o.tail s.packed s.pool r).pool o.slot (links_of o)) (discard s.memory o.tail s.packed s.pool r).register
  cuts : Turns (role c) → (x y n : ℕ) → Effect c s r m h a (cut_first x y s.opened) s.packed (with_linked s.pool n) r
  cuts_back : Turns (role c) → (x y n t : ℕ) → m ≡ s.memory →
      Effect c s r m h a (cut_first x y s.opened) (discard s.memory t s.packed (with_linked s.pool n) r).left (discard s.memory t s.packed (with_linked s.pool n) r).pool (discard s.memory t s.packed (with_linked s.pool n) r).register
  enters : (g : ℕ) (k : ObjIdx) → c ≡ OwnerEnter g k → h ≡ s.head → Effect c s r m h a s.opened s.packed s.pool (entered r g k.0)
  strikes : (g : ℕ) (k : ObjIdx) → c ≡ OwnerStrike g k → h ≡ s.head → Effect c s r m h a s.opened s.packed s.pool (struck r g k.0)
