use Rattle.std.proofs.Common.{vec_len, ap, ◌∙◌}
use Rattle.objects.specs.Contents.{Contents, contents}
use Rattle.serializer_state.specs.Extents.{within, lying}
use Rattle.serializer_link.proofs.Ordering.{kept_inside, kept_lies}
use Rattle.serializer_link.proofs.repacks.order.Goals as goal

pub invariant_of-s : goal.invariant_of-s
invariant_of-s c =
    let s = c.args.s.now in
    let n = vec_len s.memory in
    record {
      sized = s.sized;
      inside = ap (λ (k : Contents). within n k.opened) c.add_virtual_to-ordered.ensures.state ∙ kept_inside n _ _ _ (contents s.objects) ∙ s.inside;
      lies = ap (λ (k : Contents). lying n k.packed) c.add_virtual_to-ordered.ensures.state ∙ kept_lies n _ _ _ (contents s.objects) ∙ s.lies;
    }
