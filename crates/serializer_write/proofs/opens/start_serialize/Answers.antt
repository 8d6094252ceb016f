use Rattle.std.proofs.Common.{◌≡◌, sym, ap, ◌∙◌, rules}
use Rattle.serializer_state.specs.View.{view}
use Rattle.serializer_state.specs.Declines.{required}
use Rattle.serializer_write.proofs.Open.{start_declined}
use Rattle.serializer_write.proofs.opens.start_serialize.Goals as goal

pub returns-in_err-required : goal.returns-in_err-required
returns-in_err-required c =
    let v = view c.args.s.now in
    let b = c.nothing_open.result in
    let e = start_declined v b c.in_err-required.field-0.0 (sym c.changeable.ensures.answer ∙ c.in_ok-changeable.was) c.nothing_open.ensures.answer (sym c.required.ensures.answer ∙ c.in_err-required.was) in
    let a : c.from_residual-in_err-required.result ≡ (required b v).1 = search rules in
    record { answer = a ∙ sym (ap (λ q. q.1) e); state = c.required.ensures.state ∙ sym (ap (λ q. q.0) e) }
