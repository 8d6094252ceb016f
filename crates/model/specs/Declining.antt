-- How a call is declined: once the serializer is ended, then by the first of its tests that holds.
use Rattle.std.specs.Prelude.{Bool, true, false, not, ◌||◌, List, [], ◌∷◌}
use Rattle.cursor.specs.declared.flags.SerializeErrorFlags.{SerializeErrorFlags}
use Rattle.cursor.specs.Flags.{none, other, joined, same_flags, hard}
use Rattle.model.specs.State.{State, flag}

-- the first test that holds declines: its flags are joined to those that stand, and all are answered
abbrev pub refuse : {A : Type 0} → List (Bool × SerializeErrorFlags) → (SerializeErrorFlags → A) → State → (State → State × A) → State × A
refuse [] e s go = go s
refuse (t ∷ ts) e s go = elim t.0 [ true ↦ (flag s t.1, e (joined s.flags t.1)) | false ↦ refuse ts e s go ]

-- an ended serializer does not change: the flags are answered with OTHER added
abbrev pub unless_ended : {A : Type 0} → (SerializeErrorFlags → A) → State → (State → State × A) → State × A
unless_ended e s go = elim s.ended [ true ↦ (s, e (joined s.flags other)) | false ↦ go s ]

-- a call with its tests in their order; `e` is what it answers when declined, and `go` what it does
abbrev pub guarded : {A : Type 0} → (State → List (Bool × SerializeErrorFlags)) → (SerializeErrorFlags → A) → (State → State × A) → State → State × A
guarded tests e go s = unless_ended e s (λ s. refuse (tests s) e s go)

abbrev pub no_tests : State → List (Bool × SerializeErrorFlags)
no_tests s = []

-- for a call that answers nothing
abbrev pub silent : SerializeErrorFlags → Unit {0}
silent f = tt

abbrev pub flagged : State → Bool
flagged s = not (same_flags s.flags none)

abbrev pub nothing_open : State → Bool
nothing_open s = elim s.opened [ [] ↦ true | o ∷ os ↦ false ]

-- nothing is closed, discarded or reverted: ended, or a hard flag stands
abbrev pub idle : State → Bool
idle s = s.ended || hard s.flags

-- ---- flags set by the caller

abbrev pub setting : SerializeErrorFlags → State → State × SerializeErrorFlags
setting f s = (flag s f, joined s.flags f)

abbrev pub set_err : SerializeErrorFlags → State → State × SerializeErrorFlags
set_err f s = guarded no_tests (λ g. g) (setting f) s
