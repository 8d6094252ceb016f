use Rattle.std.proofs.Common.{◌≡◌}
use Rattle.std.specs.List.{fold}
use Rattle.objects.specs.Contents.{contents}
use Rattle.offset_fields.specs.Passes.{ending, free, packed, put_link}
use Rattle.offset_fields.specs.Walk.{left}
use Rattle.offset_fields.proofs.measure.Measure.put_all.Given as goal

-- what is left leads to the same state
abbrev pub invariant-loop-placed : goal.invariant-loop-placed
invariant-loop-placed l =
    fold (put_link (free l.self) (packed l.self)) (ending l.memory l.flags l.self.cursor (contents l.self.objects.now)) (left l.placed-iterator)
    ≡ fold (put_link (free l.self) (packed l.self)) (ending l.initial.memory l.initial.flags l.self.cursor (contents l.self.objects.now)) (left l.initial.placed-iterator)
