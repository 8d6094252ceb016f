use Rattle.std.proofs.Common.{◌-◌, length}
use Rattle.register_table.specs.Round.{far}
use Rattle.register_table.proofs.Shift.{Gap}
use Rattle.register_table.proofs.gap.vacate.Given as goal

abbrev pub invariant-loop-cells : goal.invariant-loop-cells
invariant-loop-cells l = Gap (length l.initial.cells) l.initial.cells l.start l.cells l.gap l.at

abbrev pub decreases-loop-cells : goal.decreases-loop-cells
decreases-loop-cells l = length l.initial.cells - far (length l.initial.cells) l.start l.at
