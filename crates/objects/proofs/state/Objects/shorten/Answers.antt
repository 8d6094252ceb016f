use Rattle.std.proofs.Common.{subst, sym, ap, ◌∙◌, List}
use Rattle.link.specs.declared.Link.{Link}
use Rattle.links.specs.Meaning.{cells}
use Rattle.objects.specs.Contents.{parts, contents, meaning}
use Rattle.objects.specs.declared.extents.Which.TheVariants.{Innermost}
use Rattle.objects.proofs.Sound.{Sound, sound, kept}
use Rattle.objects.proofs.Frame.{with_links}
use Rattle.objects.proofs.Steps.{listed, list_sound, shortened_means}
use Rattle.objects.proofs.state.Objects.shorten.Goals as goal

pub invariant_of-self : goal.invariant_of-self
invariant_of-self c =
    let s = c.args.self.now in
    let l = listed Innermost c.args.kind (parts s) c.in-Some.list c.in-Some.ensures.answer in
    let n = cells c.cut.new.self in
    let w = subst (λ (v : List (List Link)). Sound (with_links (parts s) v n)) (sym c.cut.ensures.state) (list_sound Innermost c.args.kind (parts s) (sound s) c.in-Some.list l _ n) in
    kept _ _ w s.reserved

pub returns-in-Some : goal.returns-in-Some
unfolding contents
returns-in-Some c =
    let s = c.args.self.now in
    let l = listed Innermost c.args.kind (parts s) c.in-Some.list c.in-Some.ensures.answer in
    let n = cells c.cut.new.self in
    record {
      state =
          ap (λ (v : List (List Link)). meaning (with_links (parts s) v n)) c.cut.ensures.state
          ∙ shortened_means c.args.kind (parts s) (sound s) c.in-Some.list l c.args.count n c.cut.ensures.same;
    }
