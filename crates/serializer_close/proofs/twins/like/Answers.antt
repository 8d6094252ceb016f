use Rattle.std.proofs.Common.{◌≡◌, ◌&&◌, Bool, Some, None, Option, refl, ap, ◌∙◌, rules}
use Rattle.scalar.specs.Place.{part}
use Rattle.model.specs.State.{Object, numbered}
use Rattle.model.specs.Closing.{same_bytes}
use Rattle.objects.specs.Change.{first, alike}
use Rattle.serializer_state.specs.View.{view}
use Rattle.serializer_close.specs.Twins.{like_numbered}
use Rattle.serializer_close.proofs.Sharing.{alike_open}
use Rattle.serializer_close.proofs.twins.like.Goals as goal

by_object : (c : goal.After-is_some_and) (o : Option Object) → numbered (view c.args.s.now).packed c.args.number.0 ≡ o
    → c.is_some_and.result ≡ like_numbered (view c.args.s.now) c.args.at.head c.args.at.tail c.args.number.0
by_object c None e = let h = rw (c.outline.ensures.answer, e) at c.is_some_and.ensures in rw e h
by_object c (Some p) e =
    let s = view c.args.s.now in
    let h = rw (c.outline.ensures.answer, e) at c.is_some_and.ensures in
    let same : Bool = same_bytes (part s.memory p.head p.tail) (part s.memory c.args.at.head c.args.at.tail) in
    let v : c.is_some_and.result ≡ (same && alike (numbered s.packed c.args.number.0) (first s.opened)) = search rules in
    rw e (rw e at v ∙ ap (λ b. same && b) (alike_open p s c.requires.opened))

pub returns : goal.returns
returns c = record { answer = by_object c _ refl }
