use Rattle.std.proofs.Common.{rules}
use Rattle.scalar.specs.Place.{part}
use Rattle.model.specs.Reading.{real_of}
use Rattle.objects.specs.Change.{first}
use Rattle.register.proofs.Least.{least_as}
use Rattle.serializer_state.specs.View.{view}
use Rattle.serializer_close.specs.Twins.{like_numbered}
use Rattle.serializer_close.proofs.Least.{twin_is}
use Rattle.serializer_close.proofs.twins.find_twin.Goals as goal

pub returns : goal.returns
returns g c =
    let s = view c.args.s.now in
    let l = least_as _ _ _ (like_numbered s c.args.at.head c.args.at.tail) c.least_where.ensures.answer (λ m b k. search rules) in
    record { answer = twin_is s.memory _ _ (part s.memory c.args.at.head c.args.at.tail) (real_of (first s.opened)) s.packed _ (rw c.packed_count.ensures.answer at l) }
