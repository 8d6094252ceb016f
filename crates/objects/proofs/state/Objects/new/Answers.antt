use Rattle.std.proofs.Common.{◌*◌, vec_items, vec_len}
use Rattle.links.specs.Meaning.{lists, cells}
use Rattle.objects.specs.Contents.{contents}
use Rattle.objects.proofs.Stack.{idle_means}
use Rattle.objects.proofs.state.Objects.new.Goals as goal

pub returns : goal.returns
unfolding contents
returns c =
    let extents = c.in_ok-extents.extents in
    let links = c.in_ok-links.links in
    record {
      answer =
          idle_means (vec_items extents) (lists links) _ _ _ (vec_len extents) (cells links) _ _ (2 * c.args.slot_count) c.in_ok-links.ensures.answer.0 c.in_ok-opened.ensures.items c.in_ok-packed.ensures.items
          c.in_ok-released.ensures.items c.in_ok-extents.ensures.len c.in_ok-links.ensures.answer.1;
    }
