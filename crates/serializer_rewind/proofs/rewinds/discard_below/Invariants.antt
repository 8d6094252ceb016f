use Rattle.std.proofs.Common.{◌≡◌, length}
use Rattle.model.specs.State.{with_packed}
use Rattle.model.specs.Rewinding.{discard}
use Rattle.serializer_state.specs.View.{view}
use Rattle.serializer_rewind.proofs.rewinds.discard_below.Given as goal

-- what is left to discard gives the same result, and nothing else has changed
abbrev pub invariant-loop-last : goal.invariant-loop-last
invariant-loop-last g l =
    (view l.s ≡ with_packed (view l.initial.s) (view l.s).packed (view l.s).pool)
    × (discard (view l.s).memory l.tail (view l.s).packed (view l.s).pool (g.R.Register.holds l.register) ≡ discard (view l.initial.s).memory l.tail (view l.initial.s).packed (view l.initial.s).pool (g.R.Register.holds l.initial.register))

abbrev pub decreases-loop-last : goal.decreases-loop-last
decreases-loop-last g l = length (view l.s).packed
