-- A link more at the open object, real or virtual, in the words of the state.
use Rattle.std.proofs.Common.{◌≡◌, Bool, cond, ◌&&◌, List, is_some, Ok, Err, Result, ap, ◌∙◌, arith}
use Rattle.cursor.specs.declared.flags.SerializeErrorFlags.{SerializeErrorFlags}
use Rattle.model.specs.State.{Object, State, with_opened, cell_free}
use Rattle.model.specs.Declining.{refuse}
use Rattle.model.specs.Linking.{virtual_tests, cell_taken}
use Rattle.objects.specs.Change.{first}
use Rattle.objects.specs.Contents.{Contents, contents}
use Rattle.serializer_state.specs.declared.state.SerializerState.{SerializerState}
use Rattle.serializer_state.specs.View.{view}
use Rattle.serializer_state.specs.Declines.{required}

abbrev pub Answered : Type 0
Answered = State × Result (Unit {0}) SerializeErrorFlags

-- `more` puts the link at the innermost object: declined where none is open, or no cell is free
abbrev pub added : (List Object → List Object) → State → Answered
added more s = refuse (virtual_tests s) Err s (λ s. (with_opened s (more s.opened) (cell_taken s.pool), Ok tt))

-- the state with other objects
abbrev with_objects : State → Contents → State
with_objects s c = record { memory = s.memory; head = s.head; tail = s.tail; flags = s.flags; ended = s.ended; opened = c.opened; packed = c.packed; pool = c.pool }

at : (s : State) (os ps : List Object) (p : _) (r : Bool) (more : List Object → List Object) → r ≡ (is_some (first os) && cell_free p)
    → required r (with_objects s (cond r (record { opened = more os; packed = ps; pool = cell_taken p }) (record { opened = os; packed = ps; pool = p }))) ≡ added more (with_objects s (record { opened = os; packed = ps; pool = p }))
at s os ps p r more e = grind arith

-- r says whether the link was added, and `left` is what the objects hold then
pub joined : (s : SerializerState) (r : Bool) (more : List Object → List Object) (left : Contents) → r ≡ (is_some (first (contents s.objects).opened) && cell_free (contents s.objects).pool)
    → left ≡ cond r (record { opened = more (contents s.objects).opened; packed = (contents s.objects).packed; pool = cell_taken (contents s.objects).pool }) (contents s.objects)
    → required r (with_objects (view s) left) ≡ added more (view s)
joined s r more left e l =
    let c = contents s.objects in
    ap (λ (x : Contents). required r (with_objects (view s) x)) l ∙ at (view s) c.opened c.packed c.pool r more e
