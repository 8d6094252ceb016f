-- The state of the model that the fields stand for.
use Rattle.std.specs.Prelude.{ℕ, Bool, List, vec_items}
use Rattle.cursor.specs.declared.flags.SerializeErrorFlags.{SerializeErrorFlags}
use Rattle.model.specs.State.{State}
use Rattle.objects.specs.Contents.{Contents, contents}
use Rattle.serializer_state.specs.declared.state.SerializerState.{SerializerState}

abbrev pub state : List ℕ → ℕ → ℕ → SerializeErrorFlags → Bool → Contents → State
state m h t f e c = record { memory = m; head = h; tail = t; flags = f; ended = e; opened = c.opened; packed = c.packed; pool = c.pool }

abbrev pub view : SerializerState → State
view s = state (vec_items s.memory) s.cursor.head s.cursor.tail s.flags s.ended (contents s.objects)
