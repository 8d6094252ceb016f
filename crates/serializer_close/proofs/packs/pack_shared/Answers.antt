use Rattle.scalar.specs.Place.{part}
use Rattle.model.specs.Closing.{twin}
use Rattle.model.specs.Reading.{real_of}
use Rattle.objects.specs.Change.{first}
use Rattle.serializer_state.specs.View.{view}
use Rattle.serializer_close.proofs.Least.{twin_within}
use Rattle.serializer_close.proofs.Sharing.{found}
use Rattle.serializer_close.proofs.packs.pack_shared.Goals as goal

pub share_with-requires-clause-packed : goal.share_with-requires-clause-packed
share_with-requires-clause-packed g c =
    let s = view c.args.s.now in
    let bs = part s.memory c.args.at.head c.args.at.tail in
    let ls = real_of (first s.opened) in
    let r = g.R.Register.holds c.args.register.now in
    let h = c.hash_of-hash.result in
    twin_within s.memory r h bs ls s.packed c.in-Some.number.0 (found (twin s.memory r h bs ls s.packed) c.in-Some.number c.in-Some.ensures.answer)
