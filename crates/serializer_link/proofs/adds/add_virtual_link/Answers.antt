use Rattle.std.proofs.Common.{sym, ap, ◌∙◌}
use Rattle.model.specs.Linking.{extend_virtual}
use Rattle.objects.specs.Contents.{contents}
use Rattle.serializer_state.specs.View.{view}
use Rattle.serializer_link.proofs.Joined.{Answered, joined}
use Rattle.serializer_link.proofs.Added.{virtual_begun}
use Rattle.serializer_link.proofs.adds.add_virtual_link.Goals as goal

pub returns : goal.returns
returns c =
    let k = c.args.objidx in
    let s = c.args.s.now in
    let j = joined s c.add_virtual-ordered.result (extend_virtual k) (contents c.add_virtual-ordered.new.self) c.add_virtual-ordered.ensures.answer c.add_virtual-ordered.ensures.state
    ∙ sym (virtual_begun k (view s) (sym c.changeable.ensures.answer ∙ c.in_ok-changeable.was)) in
    record { answer = c.required.ensures.answer ∙ ap (λ (q : Answered). q.1) j; state = c.required.ensures.state ∙ ap (λ (q : Answered). q.0) j }
