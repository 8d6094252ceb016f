use Rattle.std.proofs.Common.{◌≡◌, ◌-◌, length}
use Rattle.offset_fields.specs.Walk.{packed_of, left}
use Rattle.offset_fields.proofs.walk.PackedLinksIterator.next.Given as goal

-- nothing is given while an object is passed
abbrev pub invariant-loop-self : goal.invariant-loop-self
invariant-loop-self l = (l.self.objects ≡ l.initial.self.objects) × (left l.self ≡ left l.initial.self)

abbrev pub decreases-loop-self : goal.decreases-loop-self
decreases-loop-self l = length (packed_of l.self) - l.self.next
