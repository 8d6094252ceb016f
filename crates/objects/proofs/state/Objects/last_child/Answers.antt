use Rattle.std.proofs.Common.{Some, None, ◌∙◌}
use Rattle.objects.proofs.Reading.{last_child_is}
use Rattle.objects.proofs.state.Objects.last_child.Goals as goal

pub returns-in_err-last : goal.returns-in_err-last
returns-in_err-last c = record { answer = c.from_residual-in_err-last.ensures ∙ last_child_is _ _ None c.in_ok-list.ensures.links c.in_err-last.ensures.answer }

pub returns : goal.returns
returns c = record { answer = last_child_is _ _ (Some c.in_ok-last.field-0) c.in_ok-list.ensures.links c.in_ok-last.ensures.answer }
