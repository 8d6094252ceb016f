use Rattle.std.proofs.Common.{◌≡◌, drop}
use Rattle.model.specs.Linking.{repacking, open_links}
use Rattle.serializer_state.specs.View.{view}
use Rattle.serializer_link.proofs.repacks.order_all.Given as goal

-- what is left gives the same result
abbrev pub invariant-loop-i : goal.invariant-loop-i
invariant-loop-i l =
    (open_links (view l.s) ≡ open_links (view l.initial.s))
    × (repacking l.objidx (drop l.i (open_links (view l.initial.s))) (view l.s) ≡ repacking l.objidx (open_links (view l.initial.s)) (view l.initial.s))
