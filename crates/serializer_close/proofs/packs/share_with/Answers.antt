use Rattle.std.proofs.Common.{vec_items, vec_len, ap, ◌∙◌}
use Rattle.objects.specs.Contents.{Contents, contents}
use Rattle.serializer_state.specs.View.{view, state}
use Rattle.serializer_state.specs.Extents.{within, lying}
use Rattle.serializer_close.proofs.Sharing.{one_open, shared, shares_fit}
use Rattle.serializer_close.proofs.packs.share_with.Goals as goal

pub invariant_of-s : goal.invariant_of-s
invariant_of-s c =
    let x = c.args.s.now in
    let n = vec_len x.memory in
    let k = c.args.number.0 in
    let e = shared (contents x.objects) (contents c.share.new.self) k c.share.result (one_open (view x) c.requires.opened) c.requires.packed c.share.ensures.answer c.share.ensures.state in
    let f = shares_fit n k (contents x.objects) x.inside x.lies in
    record {
      sized = x.sized;
      inside = ap (λ (o : Contents). within n o.opened) e ∙ f.0;
      lies = ap (λ (o : Contents). lying n o.packed) e ∙ f.1;
    }

pub returns : goal.returns
returns c =
    let x = c.args.s.now in
    let e = shared (contents x.objects) (contents c.share.new.self) c.args.number.0 c.share.result (one_open (view x) c.requires.opened) c.requires.packed c.share.ensures.answer c.share.ensures.state in
    record { state = ap (λ (o : Contents). state (vec_items x.memory) x.cursor.head x.cursor.tail x.flags x.ended o) e }
