use Rattle.std.proofs.Common.{List, sym, ap, ◌∙◌}
use Rattle.std.specs.Option.{option_map}
use Rattle.model.specs.State.{State, Object}
use Rattle.objects.specs.Change.{first, outlined}
use Rattle.serializer_close.proofs.Sharing.{open_since}
use Rattle.serializer_state.specs.View.{view}
use Rattle.serializer_close.proofs.packs.pop_pack.Goals as goal

pub pack_shared-requires-clause-opened : goal.pack_shared-requires-clause-opened
pack_shared-requires-clause-opened g c =
    let lifted = ap (λ (s : State). s.opened) c.lift-at.ensures.state in
    open_since (view c.lift-at.new.s) c.in_ok-object.object (c.in_ok-object.ensures.answer ∙ ap (λ (os : List Object). option_map outlined (first os)) (sym lifted))
