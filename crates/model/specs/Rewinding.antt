-- Going back: discarding the open object, and reverting to a snapshot.
use Rattle.std.specs.Prelude.{ℕ, ◌-◌, Bool, true, false, cond, not, ◌||◌, List, [], ◌∷◌, length, take, Some, None, Option, ◌==◌, nat_lt}
use Rattle.cursor.specs.Flags.{other, joined}
use Rattle.link.specs.declared.PoolIdx.{PoolIdx}
use Rattle.register.specs.Pairs.{Pairs, struck}
use Rattle.model.specs.declared.snapshot.Snapshot.{Snapshot}
use Rattle.model.specs.State.{State, Object, Pool, slot_back, links_of, with_flags, with_packed, with_opened, with_cursor, with_linked}
use Rattle.model.specs.Declining.{flagged, idle}
use Rattle.model.specs.Closing.{Out, out, object_hash}

-- ---- packed objects discarded

pub record Discarded : Type 0 where
  pub left : List Object
  pub pool : Pool
  pub register : Pairs

-- newest first, each that starts below t: its own pair is struck, if held, and its slot released
abbrev pub discard : List ℕ → ℕ → List Object → Pool → Pairs → Discarded
discard m t [] p r = record { left = []; pool = p; register = r }
discard m t (o ∷ os) p r = elim (nat_lt o.head t) [
  | true ↦ discard m t os (slot_back p o.slot (links_of o)) (struck r (object_hash m o) (length os))
  | false ↦ record { left = o ∷ os; pool = p; register = r }
]

-- ---- the rewind

-- where tail must stand: at the lowest packed object, or at the end if none is packed
abbrev pub edge : State → ℕ
edge s = elim s.packed [ [] ↦ length s.memory | p ∷ ps ↦ p.head ]

abbrev pub on_edge : State → State
on_edge s = with_flags s (cond (edge s == s.tail) s.flags (joined s.flags other))

abbrev pub rewound : ℕ → ℕ → State → Pairs → Out (Unit {0})
rewound h t s r =
    let d = discard s.memory t s.packed s.pool r in
    out (on_edge (with_packed (with_cursor s h t) d.left d.pool)) d.register tt

-- done only if no flag stands, head is not below its target and tail not above it
abbrev pub rewind : ℕ → ℕ → State → Pairs → Out (Unit {0})
rewind h t s r = elim (flagged s || (nat_lt s.head h || nat_lt t s.tail)) [
  | true ↦ out s r tt
  | false ↦ rewound h t s r
]

-- ---- the open object discarded

-- the object's slot is released last
abbrev pub let_go : Object → Out (Unit {0}) → Out (Unit {0})
let_go o w = out (with_packed w.state w.state.packed (slot_back w.state.pool o.slot (links_of o))) w.register tt

abbrev pub discard_first : List Object → State → Pairs → Out (Unit {0})
discard_first [] s r = out s r tt
discard_first (o ∷ os) s r = let_go o (rewind o.head o.tail (with_opened s os s.pool) r)

abbrev pub pop_discard : State → Pairs → Out (Unit {0})
pop_discard s r = elim (idle s) [
  | true ↦ out s r tt
  | false ↦ discard_first s.opened s r
]

-- ---- snapshots

abbrev pub open_slot : State → Option PoolIdx
open_slot s = elim s.opened [ [] ↦ None | o ∷ os ↦ Some o.slot ]

abbrev pub real_count : List Object → ℕ
real_count [] = 0
real_count (o ∷ os) = length o.real

abbrev pub virtual_count : List Object → ℕ
virtual_count [] = 0
virtual_count (o ∷ os) = length o.virtual

abbrev pub snapshot : State → Snapshot
snapshot s = record { head = s.head; tail = s.tail; current = open_slot s; num_real_links = real_count s.opened; num_virtual_links = virtual_count s.opened; errors = s.flags }

abbrev pub same_slot : Option PoolIdx → Option PoolIdx → Bool
same_slot None None = true
same_slot None (Some b) = false
same_slot (Some a) None = false
same_slot (Some a) (Some b) = a.0 == b.0

-- the innermost object with its first links only
abbrev pub cut_first : ℕ → ℕ → List Object → List Object
cut_first a b [] = []
cut_first a b (o ∷ os) = (record { slot = o.slot; head = o.head; tail = o.tail; real = take a o.real; virtual = take b o.virtual }) ∷ os

abbrev pub cut_cells : ℕ → ℕ → List Object → ℕ → ℕ
cut_cells a b [] n = n
cut_cells a b (o ∷ os) n = n - (length o.real - a) - (length o.virtual - b)

abbrev pub cut : ℕ → ℕ → State → State
cut a b s = with_opened s (cut_first a b s.opened) (with_linked s.pool (cut_cells a b s.opened s.pool.linked))

-- the flags restored, the links cut back, then the rewind; nothing at all under a hard flag, with another slot open, or for a tail past the end
abbrev pub revert_snapshot : Snapshot → State → Pairs → Out (Unit {0})
revert_snapshot p s r = elim (idle s || (not (same_slot p.current (open_slot s)) || nat_lt (length s.memory) p.tail)) [
  | true ↦ out s r tt
  | false ↦ rewind p.head p.tail (cut p.num_real_links p.num_virtual_links (with_flags s p.errors)) r
]
