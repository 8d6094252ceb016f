-- Calls made one after another are a run of the model, for `run`.
use Rattle.std.proofs.Common.{◌≡◌, List, [], ◌∷◌, reverse, refl}
use mathlib.Core.List.{reverse_aux}
use Rattle.model.specs.Run as model
use Rattle.model.specs.Run.{Beginning, run}
use Rattle.runs.specs.Going.{gone}

-- from any moment of a run on
onward : (b : Beginning) (cs before : List model.Call) → gone (run b before) cs ≡ run b (reverse_aux cs before)
onward b [] before = refl
onward b (c ∷ cs) before = onward b cs (c ∷ before)

pub as_run : (b : Beginning) (cs : List model.Call) → gone (run b []) cs ≡ run b (reverse cs)
as_run b cs = onward b cs []
