-- The output: the bytes that were packed, and in each link's field the distance to its child.
use Rattle.std.specs.Prelude.{◌≡◌, ℕ, suc, ◌+◌, ◌-◌, ◌*◌, ◌^◌, ◌<◌, ◌≤◌, Bool, cond, ◌⊎◌, List, [], ◌∷◌, ◌++◌, length, take, ℤ, pos, ◌-ℤ◌, Some, Ok, nat_lt, slice_index}
use Rattle.link.specs.declared.Link.{Link}
use Rattle.link.specs.declared.OffsetWhence.{OffsetWhence}
use Rattle.link.specs.declared.OffsetWhence.TheVariants.{Head, Tail, Absolute}
use Rattle.link.specs.Width.{bytes_of_width}
use Rattle.scalar.specs.BigEndian.{number}
use Rattle.scalar.specs.Place.{part}
use Rattle.model.specs.State.{State, Object, numbered}
use Rattle.model.specs.Reading.{bytes_of, nth, output}
use Rattle.model.specs.Run.{Call, Beginning}
use Rattle.model.specs.Run.Call.{AddLink, End, Read}
use Rattle.model.specs.Run.Reading.{CopyBytes}
use Rattle.model.specs.Run.Answer.{Done, Bytes}
use Rattle.model.specs.Moments.{at, answered, depth, count, Through}
use Rattle.model.specs.Liveness.{LiveRun}

-- ---- places in the output

-- where a packed object stands in the output
abbrev pub place : State → Object → ℕ
place s p = s.head + (p.head - s.tail)

-- how far the child c of o is, by the link's whence
abbrev pub distance : State → OffsetWhence → Object → Object → ℤ
distance s Head o c = pos c.head -ℤ pos o.head
distance s Tail o c = pos c.head -ℤ pos o.tail
distance s Absolute o c = pos (place s c)

-- the number that bytes show, the most significant first; a signed one in two's complement
abbrev pub shown : Bool → List ℕ → ℤ
shown signed bs =
    cond signed (cond (nat_lt (number bs) (2 ^ (8 * length bs - 1))) (pos (number bs)) (pos (number bs) -ℤ pos (2 ^ (8 * length bs)))) (pos (number bs))

-- the field of link i of the packed object k
pub record FieldOf (s : State) (k i : ℕ) : Type 0 where
  pub object : Object
  pub link : Link
  pub packed : numbered s.packed k ≡ Some object
  pub linked : nth object.real i ≡ Some link
  pub wide : 0 < bytes_of_width link.width

abbrev pub from : {s : State} {k i : ℕ} → FieldOf s k i → ℕ
from {s} f = place s f.object + f.link.position

abbrev pub to : {s : State} {k i : ℕ} → FieldOf s k i → ℕ
to f = from f + bytes_of_width f.link.width

-- the place n of the output lies in a field
abbrev pub Inside : State → ℕ → Type 0
Inside s n = (k i : ℕ) × (f : FieldOf s k i) × (from f ≤ n) × (n < to f)

-- no other field has a place in common with f
abbrev pub MeetsNone : {s : State} {k i : ℕ} → FieldOf s k i → Type 0
MeetsNone {s} {k} {i} f = (k' i' : ℕ) (f' : FieldOf s k' i') → ((k' ≡ k) × (i' ≡ i) → ⊥) → (to f ≤ from f') ⊎ (to f' ≤ from f)

-- ---- where a link came from

-- in a list of objects the one with j behind it has l as its link i
abbrev pub HasLink : List Object → ℕ → ℕ → Link → Type 0
HasLink os j i l = (o : Object) × (numbered os j ≡ Some o) × (nth o.real i ≡ Some l)

-- the call that adds a link for a range of the memory
abbrev pub adds : Link → ℕ → ℕ → Call
adds l from to = AddLink from to l.objidx l.whence l.bias l.is_signed

-- l is link i of the packed object k because a call added it, when the object was open; the object kept it, was closed as number k, and has it since
pub record Added (b : Beginning) (cs : List Call) (k i : ℕ) (l : Link) : Type 0 where
  pub before : List Call
  pub range_from : ℕ
  pub range_to : ℕ
  pub meanwhile : List Call
  pub closing : Call
  pub since : List Call
  pub made : cs ≡ since ++ (closing ∷ (meanwhile ++ (adds l range_from range_to ∷ before)))
  -- the call was accepted for the object open then, whose link i it became
  pub accepted : answered b (adds l range_from range_to ∷ before) ≡ Done (Ok tt)
  pub parent : Object
  pub below : List Object
  pub opened : (at b before).opened ≡ parent ∷ below
  pub next : length parent.real ≡ i
  pub starts : range_from ≡ parent.head + l.position
  pub long : range_to - range_from ≡ bytes_of_width l.width
  -- until it was closed
  pub kept : Through (λ ds. HasLink (at b ds).opened (length below) i l) meanwhile (adds l range_from range_to ∷ before)
  pub innermost : depth (at b (meanwhile ++ (adds l range_from range_to ∷ before))) ≡ suc (length below)
  pub closed : depth (at b (closing ∷ (meanwhile ++ (adds l range_from range_to ∷ before)))) ≡ length below
  pub as_number : (count (at b (meanwhile ++ (adds l range_from range_to ∷ before))) ≡ k) × (count (at b (closing ∷ (meanwhile ++ (adds l range_from range_to ∷ before)))) ≡ suc k)
  -- and since
  pub stands : Through (λ ds. HasLink (at b ds).packed k i l) since (closing ∷ (meanwhile ++ (adds l range_from range_to ∷ before)))

-- the object of number k is the very object c, but for virtual links that joined it
pub record Still (ps : List Object) (k : ℕ) (c : Object) : Type 0 where
  pub object : Object
  pub named : numbered ps k ≡ Some object
  pub slot : object.slot ≡ c.slot
  pub head : object.head ≡ c.head
  pub tail : object.tail ≡ c.tail
  pub real : object.real ≡ c.real

-- ---- the law

-- what the field of a link shows in the output after the run cs
pub record ReadsBack (b : Beginning) (cs : List Call) (k i : ℕ) (f : FieldOf (at b cs) k i) : Type 0 where
  pub added : Added b cs k i f.link
  pub child : Object
  pub named : numbered (at b cs).packed f.link.objidx.0 ≡ Some child
  pub shows : shown f.link.is_signed (part (output (at b cs)) (from f) (to f)) ≡ (distance (at b cs) f.link.whence f.object child -ℤ pos f.link.bias)
  -- if only live snapshots were reverted, what the number named when the link was added was the child all the time since
  pub stood : LiveRun b cs → (c : Object) → numbered (at b added.before).packed f.link.objidx.0 ≡ Some c →
      Through (λ ds. Still (at b ds).packed f.link.objidx.0 c) (added.since ++ (added.closing ∷ added.meanwhile)) (adds f.link added.range_from added.range_to ∷ added.before)

-- the bytes that each packed object has, the one closed last first
abbrev pub contents : State → List Object → List ℕ
contents s [] = []
contents s (p ∷ ps) = bytes_of s p ++ contents s ps

-- after an ending of the run cs that ended the serializer and left no flag
pub record LawC (b : Beginning) (cs : List Call) : Type 0 where
  -- the object that the ending closed: the only one open
  pub last : Object
  pub opened : (at b cs).opened ≡ last ∷ []
  -- the loose bytes stand first, then as many bytes as were packed, each as it was unless in a field
  pub laid : List ℕ
  pub whole : output (at b (End ∷ cs)) ≡ take last.head (at b cs).memory ++ laid
  pub sized : length laid ≡ length (part (at b cs).memory last.head (at b cs).head ++ contents (at b cs) (at b cs).packed)
  pub unchanged : (n : ℕ) → n < length laid → (Inside (at b (End ∷ cs)) (last.head + n) → ⊥) →
      slice_index laid n ≡ slice_index (part (at b cs).memory last.head (at b cs).head ++ contents (at b cs) (at b cs).packed) n
  pub reads : (k i : ℕ) (f : FieldOf (at b (End ∷ cs)) k i) → MeetsNone f → ReadsBack b (End ∷ cs) k i f
  -- `copy_bytes` answers all of it, given room
  pub copied : (room : ℕ) → length (output (at b (End ∷ cs))) ≤ room → answered b (Read (CopyBytes room) ∷ End ∷ cs) ≡ Bytes (Some (output (at b (End ∷ cs))))
