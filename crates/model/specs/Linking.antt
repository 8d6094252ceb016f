-- Links of the open object: real ones, by which offsets are written, and virtual ones, which only order objects.
use Rattle.std.specs.Prelude.{ℕ, suc, ◌-◌, Bool, true, false, not, List, [], ◌∷◌, ◌++◌, length, is_some, Some, None, Ok, Err, Option, Result, ◌==◌, nat_lt}
use Rattle.cursor.specs.declared.flags.SerializeErrorFlags.{SerializeErrorFlags}
use Rattle.cursor.specs.Flags.{none, other}
use Rattle.link.specs.declared.Link.{Link}
use Rattle.link.specs.declared.LinkWidth.TheVariants.{Zero}
use Rattle.link.specs.declared.ObjIdx.{ObjIdx}
use Rattle.link.specs.declared.OffsetWhence.{OffsetWhence}
use Rattle.link.specs.declared.OffsetWhence.TheVariants.{Head}
use Rattle.link.specs.Width.{width_of_length}
use Rattle.std.specs.Option.{unwrap_or}
use Rattle.model.specs.State.{State, Object, Pool, numbered, with_opened, with_packed, with_linked, cell_free}
use Rattle.model.specs.Declining.{refuse, guarded, flagged, nothing_open}

-- ---- real links

abbrev pub open_head : State → ℕ
open_head s = elim s.opened [ [] ↦ 0 | o ∷ os ↦ o.head ]

-- the innermost object with a real link more
abbrev pub extend : Link → List Object → List Object
extend l [] = []
extend l (o ∷ os) = (record { slot = o.slot; head = o.head; tail = o.tail; real = o.real ++ (l ∷ []); virtual = o.virtual }) ∷ os

abbrev pub cell_taken : Pool → Pool
cell_taken p = with_linked p (suc p.linked)

-- the range has length 0 if it is reversed; its start lies in the object and at most 4,294,967,295 past its head
abbrev pub link_tests : ℕ → ℕ → State → List (Bool × SerializeErrorFlags)
link_tests from to s =
    (flagged s, none) ∷ (nothing_open s, other) ∷ (not (is_some (width_of_length (to - from))), other)
    ∷ (nat_lt from (open_head s), other) ∷ (nat_lt 4294967295 (from - open_head s), other) ∷ (not (cell_free s.pool), other) ∷ []

-- the link that a range of the memory gets in an object with this head
abbrev pub link_at : ℕ → ℕ → ℕ → ObjIdx → OffsetWhence → ℕ → Bool → Link
link_at head from to k w b g = record { width = unwrap_or (width_of_length (to - from)) Zero; is_signed = g; whence = w; bias = b; position = from - head; objidx = k }

abbrev pub linking : ℕ → ℕ → ObjIdx → OffsetWhence → ℕ → Bool → State → State × Result (Unit {0}) SerializeErrorFlags
linking from to k w b g s = (with_opened s (extend (link_at (open_head s) from to k w b g) s.opened) (cell_taken s.pool), Ok tt)

abbrev pub add_link : ℕ → ℕ → ObjIdx → OffsetWhence → ℕ → Bool → State → State × Result (Unit {0}) SerializeErrorFlags
add_link from to k w b g s = guarded (link_tests from to) Err (linking from to k w b g) s

-- ---- virtual links

abbrev pub virtual_to : ObjIdx → Link
virtual_to k = record { width = Zero; is_signed = false; whence = Head; bias = 0; position = 0; objidx = k }

abbrev pub extend_virtual : ObjIdx → List Object → List Object
extend_virtual k [] = []
extend_virtual k (o ∷ os) = (record { slot = o.slot; head = o.head; tail = o.tail; real = o.real; virtual = o.virtual ++ (virtual_to k ∷ []) }) ∷ os

abbrev pub virtual_tests : State → List (Bool × SerializeErrorFlags)
virtual_tests s = (nothing_open s, other) ∷ (not (cell_free s.pool), other) ∷ []

abbrev pub linking_virtual : ObjIdx → State → State × Result (Unit {0}) SerializeErrorFlags
linking_virtual k s = (with_opened s (extend_virtual k s.opened) (cell_taken s.pool), Ok tt)

-- whatever flags stand
abbrev pub add_virtual_link : ObjIdx → State → State × Result (Unit {0}) SerializeErrorFlags
add_virtual_link k s = guarded virtual_tests Err (linking_virtual k) s

-- ---- ordering the children

-- the packed object of a number with virtual links more
abbrev pub lend : List Link → ℕ → List Object → List Object
lend vs k [] = []
lend vs k (p ∷ ps) = elim (length ps == k) [
  | true ↦ (record { slot = p.slot; head = p.head; tail = p.tail; real = p.real; virtual = p.virtual ++ vs }) ∷ ps
  | false ↦ p ∷ lend vs k ps
]

abbrev pub open_links : State → List Link
open_links s = elim s.opened [ [] ↦ [] | o ∷ os ↦ o.real ]

abbrev pub child_tests : Link → State → List (Bool × SerializeErrorFlags)
child_tests l s = (not (is_some (numbered s.packed l.objidx.0)), other) ∷ (not (cell_free s.pool), other) ∷ []

-- the child of the link l, ordered before the object k
abbrev pub ordering : ObjIdx → Link → State → State
ordering k l s = with_packed s (lend (virtual_to k ∷ []) l.objidx.0 s.packed) (cell_taken s.pool)

-- through the links in their order, past those to k; where one is declined those before it stay ordered
abbrev pub repacking : ObjIdx → List Link → State → State × Result (Unit {0}) SerializeErrorFlags
repacking k [] s = (s, Ok tt)
repacking k (l ∷ ls) s = elim (l.objidx.0 == k.0) [
  | true ↦ repacking k ls s
  | false ↦ refuse (child_tests l s) Err s (λ s. repacking k ls (ordering k l s))
]

abbrev pub repack_tests : State → List (Bool × SerializeErrorFlags)
repack_tests s = (nothing_open s, other) ∷ []

-- whatever flags stand
abbrev pub repack_last : ObjIdx → State → State × Result (Unit {0}) SerializeErrorFlags
repack_last k s = guarded repack_tests Err (λ s. repacking k (open_links s) s) s

-- ---- the child added last

abbrev pub last_number : List Link → Option ObjIdx
last_number [] = None
last_number (l ∷ ls) = elim ls [ [] ↦ Some l.objidx | x ∷ xs ↦ last_number ls ]

abbrev pub last_added_child_index : State → Option ObjIdx
last_added_child_index s = last_number (open_links s)
