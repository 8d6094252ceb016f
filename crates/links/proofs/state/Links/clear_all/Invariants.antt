use Rattle.std.proofs.Common.{◌≡◌, []}
use Rattle.links.specs.Meaning.{lists, cells}
use Rattle.links.proofs.Clear.{reached}
use Rattle.links.proofs.state.Links.clear_all.Given as goal

abbrev pub invariant-loop-list : goal.invariant-loop-list
invariant-loop-list l = (lists l.self ≡ reached (lists l.initial.self) [] l.list) × (cells l.self ≡ cells l.initial.self)
