use Rattle.std.proofs.Common.{sym, ap, ◌∙◌}
use Rattle.serializer_state.specs.View.{view}
use Rattle.serializer_link.proofs.Joined.{Answered}
use Rattle.serializer_link.proofs.Ordering.{child_count, repack_begun}
use Rattle.serializer_link.proofs.repacks.repack_last.Goals as goal

pub order_all-requires : goal.order_all-requires
order_all-requires c =
    child_count c.args.objidx (view c.args.s.now) c.outline-innermost.result c.outline-innermost.ensures.answer c.in_ok-object.object (sym c.found.ensures.answer ∙ c.in_ok-object.was) (view c.found.new.self) c.found.ensures.state

pub returns : goal.returns
returns c =
    let e = repack_begun c.args.objidx (view c.args.s.now) c.outline-innermost.result c.outline-innermost.ensures.answer c.in_ok-object.object (sym c.found.ensures.answer ∙ c.in_ok-object.was) (view c.found.new.self) c.found.ensures.state
    (sym c.changeable.ensures.answer ∙ c.in_ok-changeable.was) in
    record { answer = c.order_all.ensures.answer ∙ sym (ap (λ (q : Answered). q.1) e); state = c.order_all.ensures.state ∙ sym (ap (λ (q : Answered). q.0) e) }
