use Rattle.register_table.proofs.Shift.{goes, nearer, ends}
use Rattle.register_table.proofs.gap.vacate.Goals as goal

pub loop-cells-smaller : goal.loop-cells-smaller
loop-cells-smaller c =
    rw c.following-at-in-Some.ensures.answer (nearer _ c.args.cells.now _ c.loop-cells.cells _ _ c.loop-cells.invariant c.in-Some.e c.in-Some.is c.requires.held c.requires.free)

pub loop-cells-preserved : goal.loop-cells-preserved
loop-cells-preserved c =
    rw (c.following-at-in-Some.ensures.answer, c.shift-gap.ensures.cells, c.shift-gap.ensures.answer)
    (goes _ c.args.cells.now _ c.loop-cells.cells _ _ c.loop-cells.invariant c.in-Some.e c.in-Some.is c.requires.held c.requires.free)

pub returns-clause-reached : goal.returns-clause-reached
returns-clause-reached c = ends _ c.args.cells.now _ c.loop-cells.cells _ _ c.loop-cells.invariant c.in_default.is
