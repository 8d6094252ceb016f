-- What holds of the state of every serializer.
use Rattle.std.specs.Prelude.{◌≡◌}
use Rattle.model.specs.State.{State}
use Rattle.serializer_state.specs.declared.state.SerializerState.{SerializerState}
use Rattle.serializer_state.specs.View.{view}

-- some memory, cursor and objects, with all that their types keep, stand for it
abbrev pub Kept : State → Type 0
Kept s = (k : SerializerState) × (s ≡ view k)
