-- Opening the first object, where one is open already.
use Rattle.std.proofs.Common.{◌≡◌, Bool, Ok, Err, arith}
use Rattle.cursor.specs.declared.flags.SerializeErrorFlags.{SerializeErrorFlags}
use Rattle.model.specs.State.{State}
use Rattle.model.specs.Declining.{nothing_open}
use Rattle.model.specs.Opening.{start_serialize}
use Rattle.serializer_state.specs.Declines.{changeable, required}

pub start_declined : (s : State) (b : Bool) (f : SerializeErrorFlags) → changeable s ≡ Ok tt → b ≡ nothing_open s → (required b s).1 ≡ Err f → start_serialize s ≡ required b s
start_declined s b f live e r = grind arith
