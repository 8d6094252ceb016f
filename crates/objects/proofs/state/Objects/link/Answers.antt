use Rattle.std.proofs.Common.{ap, ◌∙◌}
use Rattle.model.specs.Reading.{nth}
use Rattle.objects.proofs.Reading.{read_is}
use Rattle.objects.proofs.state.Objects.link.Goals as goal

pub returns : goal.returns
returns c =
    let s = c.args.self.now in
    record { answer = c.get.ensures.answer ∙ ap (λ ls. nth ls c.args.i) (read_is c.args.kind _ _ c.in_ok-list_of.ensures.links) }
