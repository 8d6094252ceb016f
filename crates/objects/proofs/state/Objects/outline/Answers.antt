use Rattle.std.proofs.Common.{length, vec_items, Some, ap, ◌∙◌, arith}
use Rattle.std.specs.Option.{option_map}
use Rattle.std.proofs.lemmas.List.{get_or_read}
use Rattle.objects.specs.Contents.{object_at, nowhere}
use Rattle.objects.specs.Change.{outlined}
use Rattle.objects.proofs.state.Objects.outline.Goals as goal

pub returns : goal.returns
unfolding object_at
returns c =
    let s = c.args.self.now in
    let x = c.in_ok-slot.slot in
    let e = get_or_read (vec_items s.extents) x.0 c.index.result.now (omega (arith, c.in_ok-slot.ensures.within, s.roomy, s.extents.ok.0)) c.index.ensures nowhere in
    let n = c.list_len.ensures.answer ∙ ap length c.list.ensures.links in
    let m = c.list_len-2.ensures.answer ∙ ap length c.list-2.ensures.links in
    record { answer = (λ i. Some (record { slot = x; extent = e i; num_real_links = n i; num_virtual_links = m i })) ∙ ap (option_map outlined) c.in_ok-slot.ensures.object }
