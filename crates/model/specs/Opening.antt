-- Opening an object: inside the open one, if any, or as the first.
use Rattle.std.specs.Prelude.{Bool, not, List, [], ◌∷◌, Ok, Err, Result}
use Rattle.cursor.specs.declared.flags.SerializeErrorFlags.{SerializeErrorFlags}
use Rattle.cursor.specs.Flags.{none, other}
use Rattle.model.specs.State.{State, with_opened, slot_free, slot_next, slot_taken}
use Rattle.model.specs.Declining.{guarded, flagged, nothing_open}

-- the object records head and tail, and takes a slot
abbrev pub opening : State → State × Result (Unit {0}) SerializeErrorFlags
opening s =
    (with_opened s ((record { slot = slot_next s.pool; head = s.head; tail = s.tail; real = []; virtual = [] }) ∷ s.opened) (slot_taken s.pool), Ok tt)

abbrev pub push_tests : State → List (Bool × SerializeErrorFlags)
push_tests s = (flagged s, none) ∷ (not (slot_free s.pool), other) ∷ []

abbrev pub push : State → State × Result (Unit {0}) SerializeErrorFlags
push s = guarded push_tests Err opening s

-- over an open object it is declined, whatever flags stand
abbrev pub start_tests : State → List (Bool × SerializeErrorFlags)
start_tests s = (not (nothing_open s), other) ∷ push_tests s

abbrev pub start_serialize : State → State × Result (Unit {0}) SerializeErrorFlags
start_serialize s = guarded start_tests Err opening s
