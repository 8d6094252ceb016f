use Rattle.std.proofs.Common.{vec_items, refl, arith}
use Rattle.links.specs.Meaning.{lists}
use Rattle.objects.specs.Contents.{parts, contents, object_at}
use Rattle.objects.proofs.Sound.{sound, kept}
use Rattle.objects.proofs.Frame.{frame_extent}
use Rattle.objects.proofs.Stack.{same_contents, pushed_packed, laid_top}
use Rattle.objects.proofs.state.Objects.push_packed.Goals as goal

pub invariant_of-self : goal.invariant_of-self
invariant_of-self c =
    let s = c.args.self.now in
    let w = pushed_packed (parts s) (sound s) c.args.slot c.requires.loose c.args.extent (vec_items c.push_reserved.new.self) c.push_reserved.ensures.items in
    kept _ _ w (s.reserved.0, omega (arith, s.reserved.1, c.push_reserved.ensures.capacity), s.reserved.2)

pub returns : goal.returns
unfolding contents object_at
returns c =
    let s = c.args.self.now in
    let x = c.args.slot in
    let l = c.requires.loose in
    record {
      state =
          same_contents (frame_extent (vec_items s.extents) (lists s.links) (vec_items s.opened) x.0 c.args.extent l.not_open)
          (laid_top (parts s) (sound s) x l c.args.extent (vec_items s.packed) (vec_items c.push_reserved.new.self) c.push_reserved.ensures.items l.not_packed) refl;
    }
