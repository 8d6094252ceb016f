use Rattle.std.proofs.Common.{◌-◌, ◌%◌, length}
use Rattle.register_table.specs.Round.{far}
use Rattle.register_table.proofs.Search.{Walked, Lacks}
use Rattle.register_table.proofs.TableRegister.seek.Given as goal

abbrev pub invariant-loop-e : goal.invariant-loop-e
invariant-loop-e l = Walked l.self.cells.items (l.entry.hash % length l.self.cells.items) l.at (Lacks l.entry.hash l.entry.number.0)

abbrev pub decreases-loop-e : goal.decreases-loop-e
decreases-loop-e l = length l.self.cells.items - far (length l.self.cells.items) (l.entry.hash % length l.self.cells.items) l.at
