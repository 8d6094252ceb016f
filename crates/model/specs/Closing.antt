-- Closing an object: its bytes move up to end at tail, and it is packed, or shared with an equal one that is entered.
use Rattle.std.specs.Prelude.{ℕ, ◌-◌, Bool, true, false, cond, not, ◌&&◌, List, [], ◌∷◌, length, take, Some, None, Option, ◌==◌, nat_lt}
use Rattle.cursor.specs.Flags.{other}
use Rattle.fnv.specs.Fnv.{offset_basis, hashed_from}
use Rattle.link.specs.declared.Link.{Link}
use Rattle.link.specs.declared.ObjIdx.{ObjIdx}
use Rattle.link.specs.Feed.{links_feed, whence_code}
use Rattle.link.specs.Width.{bytes_of_width}
use Rattle.register.specs.Pairs.{Pairs, entered}
use Rattle.scalar.specs.Place.{part, write}
use Rattle.model.specs.State.{State, Object, index, flag, with_opened, with_packed, with_cursor, slot_back, links_of}
use Rattle.model.specs.Declining.{idle}
use Rattle.model.specs.Linking.{lend}

-- what a call that is handed the register leaves and answers
pub record Out (A : Type 0) : Type 0 where
  pub state : State
  pub register : Pairs
  pub answer : A

abbrev pub out : {A : Type 0} → State → Pairs → A → Out A
out s r a = record { state = s; register = r; answer = a }

-- ---- equal objects

-- the first 128 bytes, or all if fewer, then the real links
unfoldable pub hash : List ℕ → List Link → ℕ
hash bs ls = hashed_from (hashed_from offset_basis (take 128 bs)) (links_feed ls)

abbrev pub object_hash : List ℕ → Object → ℕ
object_hash m o = hash (part m o.head o.tail) o.real

abbrev pub same_bytes : List ℕ → List ℕ → Bool
same_bytes [] [] = true
same_bytes [] (y ∷ ys) = false
same_bytes (x ∷ xs) [] = false
same_bytes (x ∷ xs) (y ∷ ys) = x == y && same_bytes xs ys

abbrev pub same_mark : Bool → Bool → Bool
same_mark a b = cond a b (not b)

abbrev pub same_link : Link → Link → Bool
same_link k l =
    (bytes_of_width k.width == bytes_of_width l.width) && (same_mark k.is_signed l.is_signed
    && (whence_code k.whence == whence_code l.whence && (k.bias == l.bias && (k.position == l.position && k.objidx.0 == l.objidx.0))))

abbrev pub same_links : List Link → List Link → Bool
same_links [] [] = true
same_links [] (y ∷ ys) = false
same_links (x ∷ xs) [] = false
same_links (x ∷ xs) (y ∷ ys) = same_link x y && same_links xs ys

-- whether the packed object of number k is entered under h and has these bytes and real links
abbrev pub matches : List ℕ → Pairs → ℕ → List ℕ → List Link → ℕ → Object → Bool
matches m r h bs ls k p = r.has h k && (same_bytes (part m p.head p.tail) bs && same_links p.real ls)

abbrev pub or_else : Option ℕ → Option ℕ → Option ℕ
or_else (Some k) o = Some k
or_else None o = o

-- the least number of such an object
abbrev pub twin : List ℕ → Pairs → ℕ → List ℕ → List Link → List Object → Option ℕ
twin m r h bs ls [] = None
twin m r h bs ls (p ∷ ps) = or_else (twin m r h bs ls ps) (cond (matches m r h bs ls (length ps) p) (Some (length ps)) None)

-- ---- moving up

abbrev pub moved : Object → State → Object
moved o s = record { slot = o.slot; head = s.tail - (s.head - o.head); tail = s.tail; real = o.real; virtual = o.virtual }

-- the bytes end at tail, head returns to the object's
abbrev pub move : Object → List Object → State → State
move o os s = record { memory = write s.memory (s.tail - (s.head - o.head)) (part s.memory o.head s.head); head = o.head; tail = s.tail; flags = s.flags; ended = s.ended; opened = os; packed = s.packed; pool = s.pool }

-- ---- packing

abbrev pub pack_new : Object → State → State
pack_new o s = with_packed (with_cursor s s.head o.head) (o ∷ s.packed) s.pool

-- the twin takes over the virtual links; tail stays
abbrev pub pack_twin : Object → ℕ → State → State
pack_twin o k s = with_packed s (lend o.virtual k s.packed) (slot_back s.pool o.slot (length o.real))

abbrev pub pack_shared : Object → ℕ → Option ℕ → State → Pairs → Out (Option ObjIdx)
pack_shared o h (Some k) s r = out (pack_twin o k s) r (Some (index k))
pack_shared o h None s r = out (pack_new o s) (entered r h (length s.packed)) (Some (index (length s.packed)))

-- the number is the count packed before; with sharing the object is entered
abbrev pub pack : Bool → Object → State → Pairs → Out (Option ObjIdx)
pack false o s r = out (pack_new o s) r (Some (index (length s.packed)))
pack true o s r =
    let bs = part s.memory o.head o.tail in
    let h = hash bs o.real in
    pack_shared o h (twin s.memory r h bs o.real s.packed) s r

-- ---- closing

abbrev pub linkless : Object → Bool
linkless o = links_of o == 0

-- with head below the object's own it sets OTHER; without bytes it answers none, and with links it sets OTHER
abbrev pub close : Bool → Object → List Object → State → Pairs → Out (Option ObjIdx)
close share o os s r = elim (nat_lt s.head o.head) [
  | true ↦ out (flag (with_opened s os s.pool) other) r None
  | false ↦ elim (s.head == o.head) [
    | true ↦ elim (linkless o) [ true ↦ out (with_opened s os s.pool) r None | false ↦ out (flag (with_opened s os s.pool) other) r None ]
    | false ↦ pack share (moved o s) (move o os s) r
  ]
]

abbrev pub close_first : Bool → List Object → State → Pairs → Out (Option ObjIdx)
close_first share [] s r = out s r None
close_first share (o ∷ os) s r = close share o os s r

abbrev pub pop_pack : Bool → State → Pairs → Out (Option ObjIdx)
pop_pack share s r = elim (idle s) [
  | true ↦ out s r None
  | false ↦ close_first share s.opened s r
]
