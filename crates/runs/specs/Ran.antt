-- What a list of calls leaves: the state and the answers of the model's run of these calls.
use Rattle.std.specs.Prelude.{◌≡◌, List, map, reverse, vec_items}
use Rattle.register.specs.Pairs.{Pairs}
use Rattle.model.specs.Run as model
use Rattle.model.specs.Run.{World, Beginning}
use Rattle.calls.specs.Meaning.{call_of}
use Rattle.calls.specs.declared.call.Call.{Call}
use Rattle.serializer_new.specs.declared.storage.Memory.{Memory}
use Rattle.serializer_new.specs.Amount.{size_of, slots_of, cells_of}
use Rattle.runs.specs.declared.outcome.Outcome.{Outcome}
use Rattle.runs.specs.Told.{told}

-- the calls of a list as a run of the model: the last first
abbrev pub calls_of : List Call → List model.Call
calls_of cs = reverse (map call_of cs)

abbrev pub beginning : Memory → Pairs → Beginning
beginning m r = record { size = size_of m; slots = slots_of m; cells = cells_of m; register = r }

pub record Ran (w : World) (o : Outcome) : Type 0 where
  pub state : o.serializer ≡ w.state
  pub answers : told (vec_items o.answers) ≡ w.answers
