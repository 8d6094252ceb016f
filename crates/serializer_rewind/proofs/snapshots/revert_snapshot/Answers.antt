use Rattle.std.proofs.Common.{not, ◌||◌, ltb, length, sym, ap, ◌∙◌, arith}
use Rattle.std.proofs.lemmas.Bool.{or_parts, ltb-false}
use Rattle.model.specs.State.{State}
use Rattle.model.specs.Declining.{idle}
use Rattle.model.specs.Rewinding.{same_slot, open_slot}
use Rattle.serializer_state.specs.View.{view}
use Rattle.serializer_rewind.proofs.snapshots.revert_snapshot.Goals as goal

pub rewind-requires : goal.rewind-requires
rewind-requires g c =
    let s = view c.args.s.now in
    let p = c.args.snapshot in
    let q = or_parts (idle s) (not (same_slot p.current (open_slot s)) || ltb (length s.memory) p.tail) (sym c.stale.ensures.answer ∙ c.if-stale.false) in
    let r = or_parts (not (same_slot p.current (open_slot s))) (ltb (length s.memory) p.tail) q.1 in
    let m = ap (λ (x : State). length x.memory) c.restore.ensures.state in
    record { within = omega (arith, ltb-false (length s.memory) p.tail r.1, m) }
