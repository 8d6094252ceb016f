-- A new serializer, and the limits that its memory and its register must keep.
use Rattle.std.specs.Prelude.{ℕ, Bool, true, false, cond, ◌||◌, [], replicate, Ok, Err, Result, nat_lt}
use Rattle.cursor.specs.Flags.{none, other}
use Rattle.model.specs.declared.limit.Limit.{Limit}
use Rattle.model.specs.declared.limit.Limit.TheVariants.{Memory, Register}
use Rattle.model.specs.State.{State}

-- at most 4,294,967,295 bytes, and 1,048,576 slots and link cells each
abbrev pub over_memory : ℕ → ℕ → ℕ → Bool
over_memory size slots cells = nat_lt 4294967295 size || (nat_lt 1048576 slots || nat_lt 1048576 cells)

-- declined for the first limit that is not kept; a register must hold at least as many pairs as there are slots
abbrev pub checked : ℕ → ℕ → ℕ → ℕ → Result (Unit {0}) Limit
checked size slots cells capacity = cond (over_memory size slots cells) (Err Memory) (cond (nat_lt capacity slots) (Err Register) (Ok tt))

-- all bytes zero, all of them free, no slot or cell in use
abbrev pub fresh : ℕ → ℕ → ℕ → State
fresh size slots cells = record { memory = replicate size 0; head = 0; tail = size; flags = none; ended = false; opened = []; packed = []; pool = record { released = []; used = 0; slots = slots; linked = 0; cells = cells } }

-- ended from the start, over no memory
abbrev pub barred : State
barred = record { memory = []; head = 0; tail = 0; flags = other; ended = true; opened = []; packed = []; pool = record { released = []; used = 0; slots = 0; linked = 0; cells = 0 } }

abbrev pub begun : Result (Unit {0}) Limit → ℕ → ℕ → ℕ → State
begun (Ok u) size slots cells = fresh size slots cells
begun (Err l) size slots cells = barred

abbrev pub new : ℕ → ℕ → ℕ → ℕ → State
new size slots cells capacity = begun (checked size slots cells capacity) size slots cells
