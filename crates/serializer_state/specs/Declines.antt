-- The tests by which calls are declined, each with what it answers.
use Rattle.std.specs.Prelude.{Bool, true, false, Some, None, Option, Ok, Err, Result}
use Rattle.cursor.specs.declared.flags.SerializeErrorFlags.{SerializeErrorFlags}
use Rattle.cursor.specs.Flags.{none, other, joined}
use Rattle.model.specs.State.{State, flag}
use Rattle.model.specs.Declining.{flagged}

-- an ended serializer is not changed: its flags are answered with OTHER added
abbrev pub changeable : State → Result (Unit {0}) SerializeErrorFlags
changeable s = elim s.ended [ true ↦ Err (joined s.flags other) | false ↦ Ok tt ]

-- nor is one under a flag: its flags are answered with none added
abbrev pub ready : State → Result (Unit {0}) SerializeErrorFlags
ready s = elim s.ended [
  | true ↦ Err (joined s.flags other)
  | false ↦ elim (flagged s) [ true ↦ Err (joined s.flags none) | false ↦ Ok tt ]
]

-- what a call needs: where it does not hold, OTHER joins the flags, and all are answered
abbrev pub required : Bool → State → State × Result (Unit {0}) SerializeErrorFlags
required holds s = elim holds [ true ↦ (s, Ok tt) | false ↦ (flag s other, Err (joined s.flags other)) ]

-- what a call looks for: where there is none, OTHER joins the flags, and all are answered
abbrev pub found : {A : Type 0} → Option A → State → State × Result A SerializeErrorFlags
found None s = (flag s other, Err (joined s.flags other))
found (Some x) s = (s, Ok x)
