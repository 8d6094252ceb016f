use Rattle.std.proofs.Common.{List, ◌∙◌, sym, subst, ap}
use Rattle.std.proofs.lemmas.Bool.{cond-true}
use Rattle.link.specs.declared.Link.{Link}
use Rattle.links.specs.Meaning.{lists, cells}
use Rattle.objects.specs.Contents.{parts, contents, meaning}
use Rattle.objects.specs.declared.extents.Kind.TheVariants.{Virtual}
use Rattle.objects.specs.declared.extents.Which.TheVariants.{Innermost, Numbered}
use Rattle.objects.proofs.Sound.{Sound, sound, kept}
use Rattle.objects.proofs.Frame.{with_links}
use Rattle.objects.proofs.Steps.{Listed, listed, zipped, handed_sound, handed_means, handed_is, handed_both}
use Rattle.objects.proofs.state.Objects.hand_over.Goals as goal

pub invariant_of-self : goal.invariant_of-self
invariant_of-self c =
    let s = c.args.self.now in
    let n = cells c.append_all.new.self in
    let z = zipped _ _ _ _ c.in-Some.ensures in
    let from : Listed Innermost Virtual (parts s) c.in-Some.from = listed _ _ _ _ (sym z.0 ∙ c.list_of-from.ensures.answer) in
    let to : Listed (Numbered c.args.number) Virtual (parts s) c.in-Some.to = listed _ _ _ _ (sym z.1 ∙ c.list_of-to.ensures.answer) in
    let e = handed_is (parts s) (sound s) c.args.number c.in-Some.from c.in-Some.to from to c.append_all.result (lists c.append_all.new.self) c.append_all.ensures.answer c.append_all.ensures.state in
    let w = subst (λ (v : List (List Link)). Sound (with_links (parts s) v n)) (sym e.1) (handed_sound (parts s) (sound s) c.args.number c.in-Some.from c.in-Some.to from to n) in
    kept _ _ w s.reserved

pub returns : goal.returns
unfolding contents
returns c =
    let s = c.args.self.now in
    let n = cells c.append_all.new.self in
    let z = zipped _ _ _ _ c.in-Some.ensures in
    let from : Listed Innermost Virtual (parts s) c.in-Some.from = listed _ _ _ _ (sym z.0 ∙ c.list_of-from.ensures.answer) in
    let to : Listed (Numbered c.args.number) Virtual (parts s) c.in-Some.to = listed _ _ _ _ (sym z.1 ∙ c.list_of-to.ensures.answer) in
    let e = handed_is (parts s) (sound s) c.args.number c.in-Some.from c.in-Some.to from to c.append_all.result (lists c.append_all.new.self) c.append_all.ensures.answer c.append_all.ensures.state in
    record {
      answer = e.0 ∙ handed_both (parts s) (sound s) c.args.number c.in-Some.from c.in-Some.to from to;
      state =
          ap (λ (v : List (List Link)). meaning (with_links (parts s) v n)) e.1 ∙ handed_means (parts s) (sound s) c.args.number c.in-Some.from c.in-Some.to from to n c.append_all.ensures.same
          ∙ sym (cond-true c.append_all.result _ _ e.0);
    }
