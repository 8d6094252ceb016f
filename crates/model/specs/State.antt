-- The state of a serializer: its memory and cursor, its flags, the objects open and packed, and the slots and link cells in use.
use Rattle.std.specs.Prelude.{ℕ, suc, ◌+◌, ◌-◌, Bool, true, false, List, [], ◌∷◌, length, Some, None, Option, ◌==◌, nat_lt}
use Rattle.cursor.specs.declared.flags.SerializeErrorFlags.{SerializeErrorFlags}
use Rattle.cursor.specs.Flags.{joined}
use Rattle.link.specs.declared.Link.{Link}
use Rattle.link.specs.declared.ObjIdx.{ObjIdx}
use Rattle.link.specs.declared.PoolIdx.{PoolIdx}

-- packed: the bytes from head to tail; open: head and tail of the cursor when it was opened. Links stand in the order of adding
pub record Object : Type 0 where
  pub slot : PoolIdx
  pub head : ℕ
  pub tail : ℕ
  pub real : List Link
  pub virtual : List Link

-- `released`: the slots to use again, the last released first; `used`: how many slots were ever used, the lowest first;
-- `linked`: how many link cells are in use
pub record Pool : Type 0 where
  pub released : List PoolIdx
  pub used : ℕ
  pub slots : ℕ
  pub linked : ℕ
  pub cells : ℕ

-- `opened`: the innermost first; `packed`: the one packed last first, so that an object's number is how many stand behind it
pub record State : Type 0 where
  pub memory : List ℕ
  pub head : ℕ
  pub tail : ℕ
  pub flags : SerializeErrorFlags
  pub ended : Bool
  pub opened : List Object
  pub packed : List Object
  pub pool : Pool

-- ---- numbers of packed objects

abbrev pub index : ℕ → ObjIdx
index k = record { 0 = k }

-- the packed object of a number, if there is one
abbrev pub numbered : List Object → ℕ → Option Object
numbered [] k = None
numbered (p ∷ ps) k = elim (length ps == k) [ true ↦ Some p | false ↦ numbered ps k ]

-- ---- slots and link cells

abbrev pub slot_free : Pool → Bool
slot_free p = elim p.released [ [] ↦ nat_lt p.used p.slots | x ∷ xs ↦ true ]

-- the slot released last, else the lowest never used
abbrev pub slot_next : Pool → PoolIdx
slot_next p = elim p.released [ [] ↦ record { 0 = p.used } | x ∷ xs ↦ x ]

abbrev pub slot_taken : Pool → Pool
slot_taken p = elim p.released [
  | [] ↦ record { released = []; used = suc p.used; slots = p.slots; linked = p.linked; cells = p.cells }
  | x ∷ xs ↦ record { released = xs; used = p.used; slots = p.slots; linked = p.linked; cells = p.cells }
]

-- a slot released, with so many link cells
abbrev pub slot_back : Pool → PoolIdx → ℕ → Pool
slot_back p x n = record { released = x ∷ p.released; used = p.used; slots = p.slots; linked = p.linked - n; cells = p.cells }

abbrev pub cell_free : Pool → Bool
cell_free p = nat_lt p.linked p.cells

abbrev pub with_linked : Pool → ℕ → Pool
with_linked p n = record { released = p.released; used = p.used; slots = p.slots; linked = n; cells = p.cells }

abbrev pub links_of : Object → ℕ
links_of o = length o.real + length o.virtual

-- ---- the state changed in one part

-- flags joined to those that stand
abbrev pub flag : State → SerializeErrorFlags → State
flag s f = record { memory = s.memory; head = s.head; tail = s.tail; flags = joined s.flags f; ended = s.ended; opened = s.opened; packed = s.packed; pool = s.pool }

abbrev pub with_flags : State → SerializeErrorFlags → State
with_flags s f = record { memory = s.memory; head = s.head; tail = s.tail; flags = f; ended = s.ended; opened = s.opened; packed = s.packed; pool = s.pool }

abbrev pub with_memory : State → List ℕ → State
with_memory s m = record { memory = m; head = s.head; tail = s.tail; flags = s.flags; ended = s.ended; opened = s.opened; packed = s.packed; pool = s.pool }

abbrev pub with_cursor : State → ℕ → ℕ → State
with_cursor s h t = record { memory = s.memory; head = h; tail = t; flags = s.flags; ended = s.ended; opened = s.opened; packed = s.packed; pool = s.pool }

abbrev pub with_opened : State → List Object → Pool → State
with_opened s os p = record { memory = s.memory; head = s.head; tail = s.tail; flags = s.flags; ended = s.ended; opened = os; packed = s.packed; pool = p }

abbrev pub with_packed : State → List Object → Pool → State
with_packed s ps p = record { memory = s.memory; head = s.head; tail = s.tail; flags = s.flags; ended = s.ended; opened = s.opened; packed = ps; pool = p }

abbrev pub with_ended : State → State
with_ended s = record { memory = s.memory; head = s.head; tail = s.tail; flags = s.flags; ended = true; opened = s.opened; packed = s.packed; pool = s.pool }
