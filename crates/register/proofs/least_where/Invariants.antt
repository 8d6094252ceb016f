use Rattle.std.proofs.Common.{◌≡◌, ◌-◌, ◌<◌, true, false}
use Rattle.link.specs.declared.ObjIdx.{ObjIdx}
use Rattle.register.proofs.least_where.Given as goal

-- the test answered no at each number below `from` that is held
abbrev pub invariant-loop-number : goal.invariant-loop-number
invariant-loop-number g l = (m : ObjIdx) → m.0 < l.from.0 → (g.R.Register.holds l.register).has l.hash m.0 ≡ true → goal.F-post g l.test m false

abbrev pub decreases-loop-number : goal.decreases-loop-number
decreases-loop-number g l = l.end.0 - l.from.0
