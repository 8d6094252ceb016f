use Rattle.std.proofs.Common.{◌-◌, ◌%◌, length}
use Rattle.register_table.specs.Round.{far}
use Rattle.register_table.proofs.Search.{Walked}
use Rattle.register_table.proofs.Least.{NoLess, Best}
use Rattle.register_table.proofs.TableRegister.least.Given as goal

abbrev pub invariant-loop-e : goal.invariant-loop-e
invariant-loop-e l =
    Walked l.self.cells.items (l.hash % length l.self.cells.items) l.at (NoLess l.self.cells.items l.hash l.from.0 l.best) × Best l.self.cells.items l.hash l.from.0 l.best

abbrev pub decreases-loop-e : goal.decreases-loop-e
decreases-loop-e l = length l.self.cells.items - far (length l.self.cells.items) (l.hash % length l.self.cells.items) l.at
