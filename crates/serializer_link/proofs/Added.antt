-- What adding a link does, by what its tests find.
use Rattle.std.proofs.Common.{◌≡◌, ℕ, Bool, Ok, Err, Option, arith}
use Rattle.std.specs.Option.{option_map}
use Rattle.cursor.specs.declared.flags.SerializeErrorFlags.{SerializeErrorFlags}
use Rattle.link.specs.declared.Link.{Link}
use Rattle.link.specs.declared.ObjIdx.{ObjIdx}
use Rattle.link.specs.declared.OffsetWhence.{OffsetWhence}
use Rattle.model.specs.State.{State}
use Rattle.model.specs.Linking.{add_link, add_virtual_link, extend, extend_virtual}
use Rattle.objects.specs.declared.extents.Outline.{Outline}
use Rattle.objects.specs.Change.{first, outlined}
use Rattle.serializer_state.specs.Declines.{changeable, ready, found}
use Rattle.serializer_link.specs.declared.adds.Field.{Field}
use Rattle.serializer_link.specs.Range.{field_in}
use Rattle.serializer_link.proofs.Joined.{added}

module _ (from to : ℕ) (k : ObjIdx) (w : OffsetWhence) (b : ℕ) (g : Bool) (s : State) (live : ready s ≡ Ok tt) (o : Option Outline) (read : o ≡ option_map outlined (first s.opened)) where
  module _ (object : Outline) (some : (found o s).1 ≡ Ok object) (t : State) (after : t ≡ (found o s).0) (p : Option Field) (fits : p ≡ field_in object.extent.head from to) where
    pub no_field : (f : SerializeErrorFlags) → (found p t).1 ≡ Err f → add_link from to k w b g s ≡ ((found p t).0, Err f)
    no_field f e = grind arith

    abbrev the_link : Field → Link
    the_link f = record { width = f.width; is_signed = g; whence = w; bias = b; position = f.position; objidx = k }

    pub has_field : (f : Field) → (found p t).1 ≡ Ok f → (u : State) → u ≡ (found p t).0 → add_link from to k w b g s ≡ added (extend (the_link f)) u
    has_field f e u then = grind arith

pub virtual_begun : (k : ObjIdx) (s : State) → changeable s ≡ Ok tt → add_virtual_link k s ≡ added (extend_virtual k) s
virtual_begun k s live = grind arith
