use Rattle.std.proofs.Common.{◌≡◌, ℕ, not, ◌||◌, nat_lt, length, inl, inr, sym, ap, ◌∙◌}
use Rattle.model.specs.Declining.{idle}
use Rattle.model.specs.Rewinding.{same_slot, open_slot}
use Rattle.serializer_state.specs.View.{view}
use Rattle.serializer_rewind.proofs.Any.{two_of, third_spared, third_decides}
use Rattle.serializer_rewind.proofs.snapshots.stale.Goals as goal
use Rattle.serializer_rewind.proofs.snapshots.stale.Goals.{then-idle, else-idle}

pub returns-then-moved : goal.returns-then-moved
returns-then-moved c =
    let v = view c.args.s.now in
    let i = idle v in
    let n = not (same_slot c.args.snapshot.now.current (open_slot v)) in
    let e : c.if-idle.value ≡ (i || n) = elim c.if-idle.branch [
      | then-idle w ↦ two_of i n _ (inl (sym c.idle.ensures.answer ∙ w.if-idle.true, w.value-is ∙ c.idle.ensures.answer))
      | else-idle w ↦ two_of i n _ (inr (sym c.idle.ensures.answer ∙ w.if-idle.false, w.value-is ∙ w.moved.ensures.answer))
    ] in
    record { answer = third_spared i n (nat_lt (length v.memory) c.args.snapshot.now.tail) _ e c.if-moved.true }

pub returns-else-moved : goal.returns-else-moved
returns-else-moved c =
    let v = view c.args.s.now in
    let i = idle v in
    let n = not (same_slot c.args.snapshot.now.current (open_slot v)) in
    let e : c.if-idle.value ≡ (i || n) = elim c.if-idle.branch [
      | then-idle w ↦ two_of i n _ (inl (sym c.idle.ensures.answer ∙ w.if-idle.true, w.value-is ∙ c.idle.ensures.answer))
      | else-idle w ↦ two_of i n _ (inr (sym c.idle.ensures.answer ∙ w.if-idle.false, w.value-is ∙ w.moved.ensures.answer))
    ] in
    record { answer = ap (λ (k : ℕ). nat_lt k c.args.snapshot.now.tail) (c.len.ensures ∙ c.args.s.now.memory.ok.0) ∙ third_decides i n (nat_lt (length v.memory) c.args.snapshot.now.tail) _ e c.if-moved.false }
