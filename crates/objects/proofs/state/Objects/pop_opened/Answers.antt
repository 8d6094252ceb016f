use Rattle.std.proofs.Common.{vec_items, refl, arith}
use Rattle.links.specs.Meaning.{lists}
use Rattle.objects.specs.Contents.{parts, contents, object_at}
use Rattle.objects.proofs.Sound.{sound, kept}
use Rattle.objects.proofs.Stack.{pop_is, first_is, behind_is, same_contents, popped_opened, loose_opened}
use Rattle.objects.proofs.state.Objects.pop_opened.Goals as goal

pub invariant_of-self : goal.invariant_of-self
invariant_of-self c =
    let s = c.args.self.now in
    let e = pop_is _ _ _ _ c.pop.result s.opened.ok.0 c.pop.new.self.ok.0 c.pop.ensures.items c.pop.ensures.cases in
    let w = popped_opened (parts s) (sound s) (vec_items c.pop.new.self) c.pop.result e in
    kept _ _ w (omega (arith, s.reserved.0, c.pop.ensures.capacity), s.reserved.1, s.reserved.2)

pub returns : goal.returns
unfolding contents object_at
returns c =
    let s = c.args.self.now in
    let e = pop_is _ _ _ _ c.pop.result s.opened.ok.0 c.pop.new.self.ok.0 c.pop.ensures.items c.pop.ensures.cases in
    record {
      answer = first_is (vec_items s.extents) (lists s.links) (vec_items s.opened) (vec_items c.pop.new.self) c.pop.result e;
      state = same_contents (behind_is (vec_items s.extents) (lists s.links) (vec_items s.opened) (vec_items c.pop.new.self) c.pop.result e) refl refl;
      loose = loose_opened (parts s) (vec_items c.pop.new.self) c.pop.result (sound s) e;
    }
