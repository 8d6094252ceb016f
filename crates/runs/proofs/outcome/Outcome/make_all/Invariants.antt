use Rattle.std.proofs.Common.{◌≡◌, map, take}
use Rattle.calls.specs.Meaning.{call_of}
use Rattle.runs.specs.Going.{gone, world_of}
use Rattle.runs.proofs.outcome.Outcome.make_all.Given as goal

abbrev pub invariant-loop-next : goal.invariant-loop-next
invariant-loop-next g l =
    world_of l.self (g.R.Register.holds l.register) ≡ gone (world_of l.initial.self (g.R.Register.holds l.initial.register)) (map call_of (take l.next-index l.list))
