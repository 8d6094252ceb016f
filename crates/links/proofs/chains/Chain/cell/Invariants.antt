use Rattle.std.proofs.Common.{◌≡◌}
use Rattle.links.specs.Walk.{hop}
use Rattle.links.proofs.chains.Chain.cell.Given as goal

abbrev pub invariant-loop : goal.invariant-loop
invariant-loop l = l.at ≡ hop l.nexts l.initial.at l.counter
