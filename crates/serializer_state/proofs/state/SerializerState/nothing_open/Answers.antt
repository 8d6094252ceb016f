use Rattle.std.proofs.Common.{is_some, sym, ap, ◌∙◌}
use Rattle.serializer_state.proofs.Open.{none_read}
use Rattle.serializer_state.proofs.state.SerializerState.nothing_open.Goals as goal

pub returns : goal.returns
returns c = record { answer = none_read _ _ (ap is_some (sym c.outline.ensures.answer) ∙ c.is_none.ensures) }
