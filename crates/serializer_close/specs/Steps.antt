-- The steps of closing, while the object is still open.
use Rattle.std.specs.Prelude.{ℕ, ◌-◌, length, Some, None, Option}
use Rattle.cursor.specs.Flags.{other}
use Rattle.link.specs.declared.ObjIdx.{ObjIdx}
use Rattle.register.specs.Pairs.{Pairs, entered}
use Rattle.scalar.specs.Place.{part, write}
use Rattle.model.specs.State.{State, index, flag}
use Rattle.model.specs.Closing.{Out, out, hash, twin}
use Rattle.model.specs.Reading.{real_of}
use Rattle.objects.specs.declared.extents.Extent.{Extent}
use Rattle.objects.specs.Contents.{Contents}
use Rattle.objects.specs.Change.{first, closes, packs, shares}
use Rattle.serializer_state.specs.View.{state}

abbrev pub contents_of : State → Contents
contents_of s = record { opened = s.opened; packed = s.packed; pool = s.pool }

-- the innermost object is open no more
abbrev pub closed : State → State
closed s = state s.memory s.head s.tail s.flags s.ended (closes (contents_of s))

abbrev pub flagged_closed : State → State
flagged_closed s = flag (closed s) other

-- the bytes from h to head end at tail, and head is h
abbrev pub lifted : ℕ → State → State
lifted h s = state (write s.memory (s.tail - (s.head - h)) (part s.memory h s.head)) h s.tail s.flags s.ended (contents_of s)

-- the innermost object packed at an extent
abbrev pub packed_at : Extent → State → State
packed_at e s = state s.memory s.head e.head s.flags s.ended (packs e (contents_of s))

-- the innermost object shared with the packed object k
abbrev pub shared_at : ℕ → State → State
shared_at k s = state s.memory s.head s.tail s.flags s.ended (shares k (contents_of s))

abbrev pub pack_by : Extent → ℕ → Option ℕ → State → Pairs → Out (Option ObjIdx)
pack_by e h (Some k) s r = out (shared_at k s) r (Some (index k))
pack_by e h None s r = out (packed_at e s) (entered r h (length s.packed)) (Some (index (length s.packed)))

-- the innermost object packed at an extent, or shared
abbrev pub pack_at : Extent → State → Pairs → Out (Option ObjIdx)
pack_at e s r =
    let bs = part s.memory e.head e.tail in
    let h = hash bs (real_of (first s.opened)) in
    pack_by e h (twin s.memory r h bs (real_of (first s.opened)) s.packed) s r
