use Rattle.std.proofs.Common.{◌≡◌, vec_items, ◌∙◌, arith}
use Rattle.links.specs.Meaning.{lists, cells}
use Rattle.objects.specs.Contents.{parts, contents, object_at}
use Rattle.objects.proofs.Sound.{sound, kept}
use Rattle.objects.proofs.Release.{emptied, emptied_is, released_sound, released_means}
use Rattle.objects.proofs.state.Objects.release.Goals as goal

pub invariant_of-self : goal.invariant_of-self
invariant_of-self c =
    let s = c.args.self.now in
    let x = c.args.slot in
    let f : lists c.clear-2.new.self ≡ emptied (lists s.links) x.0 =
    emptied_is (lists s.links) (lists c.clear.new.self) (lists c.clear-2.new.self) _ _ x.0 c.clear.ensures.state c.clear-2.ensures.state c.list-reals.ensures.answer c.list-virtuals.ensures.answer in
    let w = released_sound (parts s) (sound s) x c.requires.loose (lists c.clear-2.new.self) f (vec_items c.push_reserved.new.self) c.push_reserved.ensures.items (cells c.clear-2.new.self) in
    kept _ _ w (s.reserved.0, s.reserved.1, omega (arith, s.reserved.2, c.push_reserved.ensures.capacity))

pub returns : goal.returns
unfolding contents object_at
returns c =
    let s = c.args.self.now in
    let x = c.args.slot in
    let f : lists c.clear-2.new.self ≡ emptied (lists s.links) x.0 =
    emptied_is (lists s.links) (lists c.clear.new.self) (lists c.clear-2.new.self) _ _ x.0 c.clear.ensures.state c.clear-2.ensures.state c.list-reals.ensures.answer c.list-virtuals.ensures.answer in
    record {
      state = released_means (parts s) (sound s) x c.requires.loose (lists c.clear-2.new.self) f (vec_items c.push_reserved.new.self) c.push_reserved.ensures.items (cells c.clear-2.new.self) (c.clear-2.ensures.same ∙ c.clear.ensures.same);
    }
