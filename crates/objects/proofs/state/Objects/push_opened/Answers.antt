use Rattle.std.proofs.Common.{◌∷◌, vec_items, refl, ap, ◌∙◌, arith}
use Rattle.links.specs.Meaning.{lists}
use Rattle.model.specs.State.{Object}
use Rattle.objects.specs.Contents.{parts, contents, stacked}
use Rattle.objects.proofs.Sound.{sound, kept}
use Rattle.objects.proofs.Frame.{frame_extent, blank_slot}
use Rattle.objects.proofs.Stack.{same_contents, pushed_opened, laid_top}
use Rattle.objects.proofs.state.Objects.push_opened.Goals as goal

pub invariant_of-self : goal.invariant_of-self
invariant_of-self c =
    let s = c.args.self.now in
    let w = pushed_opened (parts s) (sound s) c.args.slot c.requires.loose c.args.extent (vec_items c.push_reserved.new.self) c.push_reserved.ensures.items in
    kept _ _ w (omega (arith, s.reserved.0, c.push_reserved.ensures.capacity), s.reserved.1, s.reserved.2)

pub returns : goal.returns
unfolding contents
returns c =
    let s = c.args.self.now in
    let x = c.args.slot in
    let l = c.requires.loose in
    record {
      state =
          same_contents
          (laid_top (parts s) (sound s) x l c.args.extent (vec_items s.opened) (vec_items c.push_reserved.new.self) c.push_reserved.ensures.items l.not_open
          ∙ ap (λ (o : Object). o ∷ stacked (vec_items s.extents) (lists s.links) (vec_items s.opened)) (blank_slot (lists s.links) x c.args.extent c.requires.blank))
          (frame_extent (vec_items s.extents) (lists s.links) (vec_items s.packed) x.0 c.args.extent l.not_packed) refl;
    }
