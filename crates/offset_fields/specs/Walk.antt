-- The way through the links of all packed objects: what is still to come, and the step from one object to the next.
use Rattle.std.specs.Prelude.{◌≡◌, ◌+◌, ◌<◌, List, [], ◌++◌, map, length, Some, None, Option}
use Rattle.links.specs.Rest.{rest}
use Rattle.model.specs.State.{Object}
use Rattle.objects.specs.Contents.{contents}
use Rattle.offset_fields.specs.declared.walk.Placed.{Placed}
use Rattle.offset_fields.specs.declared.walk.ObjectLinks.{ObjectLinks}
use Rattle.offset_fields.specs.declared.walk.PackedLinks.{PackedLinks}
use Rattle.offset_fields.specs.Passes.{placed, placed_from}

-- what is still to come of one object
abbrev pub left_of : ObjectLinks → List Placed
left_of w = map (placed w.parent) (rest w.links)

abbrev pub left_begun : Option ObjectLinks → List Placed
left_begun None = []
left_begun (Some w) = left_of w

abbrev pub packed_of : PackedLinks → List Object
packed_of w = (contents w.objects.now).packed

-- what is still to come of all objects
abbrev pub left : PackedLinks → List Placed
left w = left_begun w.begun ++ placed_from w.next (packed_of w)

-- the next object is begun, with all its links to come, or there is none
abbrev pub Begins : PackedLinks → Option ObjectLinks → PackedLinks → Type 0
Begins w None v = (v ≡ w) × (placed_from w.next (packed_of w) ≡ [])
Begins w (Some b) v = (w.next < length (packed_of w)) × (v.next ≡ w.next + 1) × (v.objects ≡ w.objects) × (placed_from w.next (packed_of w) ≡ left_of b ++ placed_from (w.next + 1) (packed_of w))
