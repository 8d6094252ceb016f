use Rattle.std.proofs.Common.{◌≡◌, false, Decides, MatchOption, rules}
use Rattle.links.specs.Meaning.{Same, lists}
use Rattle.objects.proofs.Reading.{alike_is}
use Rattle.objects.proofs.state.Objects.same_links.Goals as goal

pub returns : goal.returns
returns c =
    let s = c.args.self.now in
    let r = c.is_some_and.result in
    let d : MatchOption c.zip.result (r ≡ false) (λ x. Decides r (Same s.links x.0 x.1)) = search rules in
    record { answer = alike_is (lists s.links) _ _ _ _ _ r c.zip.ensures c.list_of-first.ensures.links c.list_of-second.ensures.links c.list_of-first.ensures.inside c.list_of-second.ensures.inside d }
