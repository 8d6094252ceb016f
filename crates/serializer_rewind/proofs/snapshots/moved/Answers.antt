use Rattle.std.proofs.Common.{◌≡◌, not, Option, rules, ap, ◌∙◌}
use Rattle.std.specs.Option.{option_map}
use Rattle.link.specs.declared.PoolIdx.{PoolIdx}
use Rattle.model.specs.Rewinding.{same_slot}
use Rattle.objects.specs.declared.extents.Outline.{Outline}
use Rattle.serializer_state.specs.View.{view}
use Rattle.serializer_rewind.proofs.Innermost.{slot_read}
use Rattle.serializer_rewind.proofs.snapshots.moved.Goals as goal

pub returns : goal.returns
returns c =
    let m : c.map.result ≡ option_map (λ (x : Outline). x.slot) c.outline-innermost.result = search rules in
    let e = m ∙ slot_read (view c.args.s.now) c.outline-innermost.result c.outline-innermost.ensures.answer in
    let d : c.ne.result ≡ not (same_slot c.args.current c.map.result) = search rules in
    record { answer = d ∙ ap (λ (x : Option PoolIdx). not (same_slot c.args.current x)) e }
