-- The two passes over the links of all packed objects: whether each has its offset, and the fields written one by one.
use Rattle.std.specs.Prelude.{ℕ, true, ◌+◌, ◌-◌, Bool, cond, List, [], ◌∷◌, ◌++◌, map, length, is_some, Some, None, Option, nat_lt}
use Rattle.std.specs.Option.{option_map}
use Rattle.cursor.specs.declared.cursor.Cursor.{Cursor}
use Rattle.cursor.specs.declared.flags.SerializeErrorFlags.{SerializeErrorFlags}
use Rattle.link.specs.declared.Link.{Link}
use Rattle.link.specs.declared.OffsetWhence.{OffsetWhence}
use Rattle.link.specs.declared.OffsetWhence.TheVariants.{Head, Tail, Absolute}
use Rattle.link.specs.Width.{bytes_of_width}
use Rattle.model.specs.State.{State, Object, numbered}
use Rattle.model.specs.Ending.{Field, put_field}
use Rattle.objects.specs.declared.extents.Extent.{Extent}
use Rattle.objects.specs.declared.extents.Outline.{Outline}
use Rattle.objects.specs.Contents.{Contents, contents}
use Rattle.objects.specs.Change.{outlined}
use Rattle.offset_fields.specs.declared.measure.Measure.{Measure}
use Rattle.offset_fields.specs.declared.walk.Placed.{Placed}

-- the state while the fields are written: memory and flags change, and nothing else does
abbrev pub ending : List ℕ → SerializeErrorFlags → Cursor → Contents → State
ending m f k c = record { memory = m; head = k.head; tail = k.tail; flags = f; ended = true; opened = c.opened; packed = c.packed; pool = c.pool }

-- ---- what offsets are measured by

-- how many bytes are free
abbrev pub free : Measure → ℕ
free m = m.cursor.tail - m.cursor.head

abbrev pub packed : Measure → List Object
packed m = (contents m.objects.now).packed

-- ---- the links of packed objects

abbrev pub extent_of : Object → Extent
extent_of o = record { head = o.head; tail = o.tail }

abbrev pub placed : Extent → Link → Placed
placed e l = record { parent = e; link = l }

-- of the objects from the number n on, by their numbers, and those of one object in their order
abbrev pub placed_from : ℕ → List Object → List Placed
placed_from n [] = []
placed_from n (o ∷ os) = cond (nat_lt (length os) n) [] (placed_from n os ++ map (placed (extent_of o)) o.real)

-- ---- the offset of a link

-- by how much a lies beyond b; none if it lies before
abbrev pub beyond : ℕ → ℕ → Option ℕ
beyond a b = cond (nat_lt a b) None (Some (a - b))

-- the place that an offset of the object at e is measured from; the output has none of the g free bytes, which lie before every packed object
abbrev pub base : ℕ → Extent → OffsetWhence → ℕ
base g e Head = e.head
base g e Tail = e.tail
base g e Absolute = g

abbrev pub offset_to : ℕ → Placed → Option Outline → Option ℕ
offset_to g p None = None
offset_to g p (Some c) = beyond c.extent.head (base g p.parent p.link.whence + p.link.bias)

-- the offset of a link to one of the objects ps
abbrev pub offset_of : ℕ → List Object → Placed → Option ℕ
offset_of g ps p = offset_to g p (option_map outlined (numbered ps p.link.objidx.0))

-- ---- the first pass

abbrev pub reaches : ℕ → List Object → Placed → Bool
reaches g ps p = is_some (offset_of g ps p)

-- ---- the second pass

abbrev pub field_at : Placed → ℕ → Field
field_at p v = record { place = p.parent.head + p.link.position; width = bytes_of_width p.link.width; signed = p.link.is_signed; value = v }

abbrev pub put : Option Field → State → State
put None s = s
put (Some f) s = put_field f s

abbrev pub put_link : ℕ → List Object → State → Placed → State
put_link g ps s p = put (option_map (field_at p) (offset_of g ps p)) s
