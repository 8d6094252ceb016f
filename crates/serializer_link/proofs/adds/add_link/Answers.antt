use Rattle.std.proofs.Common.{◌≡◌, Err, sym, ap, ◌∙◌, rules}
use Rattle.serializer_state.specs.View.{view}
use Rattle.link.specs.declared.Link.{Link}
use Rattle.model.specs.Linking.{extend}
use Rattle.objects.specs.Contents.{contents}
use Rattle.serializer_link.proofs.Joined.{Answered, joined}
use Rattle.serializer_link.proofs.Added.{no_field, has_field}
use Rattle.serializer_link.proofs.adds.add_link.Goals as goal

pub returns-in_err-field : goal.returns-in_err-field
returns-in_err-field c =
    let a = c.args in
    let f = c.in_err-field.field-0.0 in
    let e = no_field a.from a.to a.objidx a.whence a.bias a.is_signed (view a.s.now) (sym c.ready.ensures.answer ∙ c.in_ok-ready.was) c.outline-innermost.result c.outline-innermost.ensures.answer
    c.in_ok-object.object (sym c.found.ensures.answer ∙ c.in_ok-object.was) (view c.found.new.self) c.found.ensures.state c.field_in.result c.field_in.ensures.answer f (sym c.found-2.ensures.answer ∙ c.in_err-field.was) in
    let r : c.from_residual-in_err-field.result ≡ Err f = search rules in
    record { answer = r ∙ sym (ap (λ (q : Answered). q.1) e); state = c.found-2.ensures.state ∙ sym (ap (λ (q : Answered). q.0) e) }

pub returns : goal.returns
returns c =
    let a = c.args in
    let e = has_field a.from a.to a.objidx a.whence a.bias a.is_signed (view a.s.now) (sym c.ready.ensures.answer ∙ c.in_ok-ready.was) c.outline-innermost.result c.outline-innermost.ensures.answer
    c.in_ok-object.object (sym c.found.ensures.answer ∙ c.in_ok-object.was) (view c.found.new.self) c.found.ensures.state c.field_in.result c.field_in.ensures.answer c.in_ok-field.field (sym c.found-2.ensures.answer ∙ c.in_ok-field.was)
    (view c.found-2.new.self) c.found-2.ensures.state in
    let link : Link = record { width = c.in_ok-field.field.width; is_signed = a.is_signed; whence = a.whence; bias = a.bias; position = c.in_ok-field.field.position; objidx = a.objidx } in
    let j = joined c.found-2.new.self c.add_real-linked.result (extend link) (contents c.add_real-linked.new.self) c.add_real-linked.ensures.answer c.add_real-linked.ensures.state ∙ sym e in
    record { answer = c.required.ensures.answer ∙ ap (λ (q : Answered). q.1) j; state = c.required.ensures.state ∙ ap (λ (q : Answered). q.0) j }
