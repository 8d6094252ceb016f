use Rattle.links.specs.Meaning.{lists, cells}
use Rattle.objects.specs.Contents.{parts, contents}
use Rattle.objects.proofs.Sound.{sound, kept}
use Rattle.objects.proofs.Frame.{sound_if, means_if}
use Rattle.objects.proofs.Steps.{listed, list_sound, grown_room, grown_means}
use Rattle.objects.proofs.state.Objects.append.Goals as goal

pub invariant_of-self : goal.invariant_of-self
invariant_of-self c =
    let s = c.args.self.now in
    let l = listed c.args.which c.args.kind (parts s) c.in-Some.list c.in-Some.ensures.answer in
    let n = cells c.append.new.self in
    let w = sound_if (parts s) c.append.result _ (lists c.append.new.self) n (sound s) (list_sound c.args.which c.args.kind (parts s) (sound s) c.in-Some.list l _ n) c.append.ensures.state in
    kept _ _ w s.reserved

pub returns : goal.returns
unfolding contents
returns c =
    let s = c.args.self.now in
    let l = listed c.args.which c.args.kind (parts s) c.in-Some.list c.in-Some.ensures.answer in
    let n = cells c.append.new.self in
    record {
      answer = grown_room c.args.which c.args.kind (parts s) (sound s) c.in-Some.list l c.append.result c.append.ensures.answer;
      state = means_if (parts s) c.append.result _ (lists c.append.new.self) n _ c.append.ensures.state c.append.ensures.same (grown_means c.args.which c.args.kind (parts s) (sound s) c.in-Some.list l c.args.link n c.append.ensures.same);
    }
