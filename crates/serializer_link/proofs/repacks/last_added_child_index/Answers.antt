use Rattle.std.proofs.Common.{ap, ◌∙◌}
use Rattle.model.specs.Linking.{last_number}
use Rattle.serializer_state.specs.View.{view}
use Rattle.serializer_link.proofs.Open.{real_open}
use Rattle.serializer_link.proofs.repacks.last_added_child_index.Goals as goal

pub returns : goal.returns
returns c = record { answer = c.last_child.ensures.answer ∙ ap last_number (real_open (view c.args.s.now).opened) }
