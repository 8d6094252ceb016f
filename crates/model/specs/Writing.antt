-- Bytes allocated and written at head, and bytes assigned at a place.
use Rattle.std.specs.Prelude.{ℕ, ◌+◌, ◌-◌, Bool, false, cond, not, List, [], ◌∷◌, length, replicate, is_some, Ok, Err, Option, Result, nat_lt}
use Rattle.cursor.specs.declared.flags.SerializeErrorFlags.{SerializeErrorFlags}
use Rattle.cursor.specs.Flags.{none, other, out_of_room}
use Rattle.scalar.specs.Place.{write}
use Rattle.std.specs.Option.{unwrap_or}
use Rattle.model.specs.State.{State, with_memory, with_cursor}
use Rattle.model.specs.Declining.{guarded, silent, flagged}

-- ---- at head

-- head advanced: the old head is answered
abbrev pub advancing : ℕ → State → State × Result ℕ SerializeErrorFlags
advancing n s = (with_cursor s (s.head + n) s.tail, Ok s.head)

abbrev pub room_tests : ℕ → State → List (Bool × SerializeErrorFlags)
room_tests n s = (flagged s, none) ∷ (nat_lt (s.tail - s.head) n, out_of_room) ∷ []

-- without clearing the old bytes stay
abbrev pub allocating : ℕ → Bool → State → State × Result ℕ SerializeErrorFlags
allocating n clear s = advancing n (with_memory s (cond clear (write s.memory s.head (replicate n 0)) s.memory))

abbrev pub allocate_size : ℕ → Bool → State → State × Result ℕ SerializeErrorFlags
allocate_size n clear s = guarded (room_tests n) Err (allocating n clear) s

abbrev pub pad : ℕ → State → State × Result ℕ SerializeErrorFlags
pad n s = allocate_size n false s

abbrev pub writing : List ℕ → State → State × Result ℕ SerializeErrorFlags
writing bs s = advancing (length bs) (with_memory s (write s.memory s.head bs))

abbrev pub embed_bytes : List ℕ → State → State × Result ℕ SerializeErrorFlags
embed_bytes bs s = guarded (room_tests (length bs)) Err (writing bs) s

-- a scalar by its bytes
abbrev pub embed : List ℕ → State → State × Result ℕ SerializeErrorFlags
embed bs s = embed_bytes bs s

-- ---- at a place

-- what is assigned must end at or before tail, whatever flags stand
abbrev pub assign_tests : ℕ → List ℕ → State → List (Bool × SerializeErrorFlags)
assign_tests at bs s = (nat_lt s.tail (at + length bs), other) ∷ []

abbrev pub assigning : ℕ → List ℕ → State → State × Unit {0}
assigning at bs s = (with_memory s (write s.memory at bs), tt)

abbrev pub copy_assign_from_bytes : ℕ → List ℕ → State → State
copy_assign_from_bytes at bs s = (guarded (assign_tests at bs) silent (assigning at bs) s).0

-- a scalar by its bytes
abbrev pub copy_assign : ℕ → List ℕ → State → State
copy_assign at bs s = copy_assign_from_bytes at bs s

-- ---- a count at a place

-- the count's bytes, if it fits the scalar; if not, the flags that the caller names
abbrev pub count_tests : Option (List ℕ) → SerializeErrorFlags → State → List (Bool × SerializeErrorFlags)
count_tests fit f s = (not (is_some fit), f) ∷ []

-- a bad place sets OTHER and is answered all the same
abbrev pub assigning_count : ℕ → Option (List ℕ) → State → State × Result (Unit {0}) SerializeErrorFlags
assigning_count at fit s = (copy_assign at (unwrap_or fit []) s, Ok tt)

abbrev pub check_assign : ℕ → Option (List ℕ) → SerializeErrorFlags → State → State × Result (Unit {0}) SerializeErrorFlags
check_assign at fit f s = guarded (count_tests fit f) Err (assigning_count at fit) s
