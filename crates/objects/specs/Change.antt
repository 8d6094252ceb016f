-- What each call does to the contents, and what it reads of them, in the words of the model.
use Rattle.std.specs.Prelude.{ℕ, Bool, false, List, [], ◌∷◌, length, Some, None, Option}
use Rattle.std.specs.Option.{option_map}
use Rattle.link.specs.declared.Link.{Link}
use Rattle.link.specs.declared.ObjIdx.{ObjIdx}
use Rattle.model.specs.State.{Object, Pool, numbered, slot_next, slot_taken, slot_back, links_of, with_linked}
use Rattle.model.specs.Linking.{extend, extend_virtual, virtual_to, lend, cell_taken}
use Rattle.model.specs.Closing.{same_links}
use Rattle.model.specs.Rewinding.{cut_first, cut_cells}
use Rattle.model.specs.Reading.{virtual_of}
use Rattle.objects.specs.declared.extents.Extent.{Extent}
use Rattle.objects.specs.declared.extents.Outline.{Outline}
use Rattle.objects.specs.declared.extents.Which.{Which}
use Rattle.objects.specs.declared.extents.Which.TheVariants.{Innermost, LastPacked, Numbered}
use Rattle.objects.specs.Contents.{Contents, built}

-- ---- the first of a list of objects: the innermost open one, or the one packed last

abbrev pub first : List Object → Option Object
first [] = None
first (◌∷◌ o os) = Some o

abbrev pub behind : List Object → List Object
behind [] = []
behind (◌∷◌ o os) = os

abbrev pub chosen : Which → Contents → Option Object
chosen Innermost c = first c.opened
chosen LastPacked c = first c.packed
chosen (Numbered n) c = numbered c.packed n.0

-- one object more, open or packed
abbrev pub with_open : Object → Contents → Contents
with_open o c = record { opened = o ∷ c.opened; packed = c.packed; pool = c.pool }

abbrev pub with_pack : Object → Contents → Contents
with_pack o c = record { opened = c.opened; packed = o ∷ c.packed; pool = c.pool }

-- ---- opening

-- a slot is taken
abbrev pub takes : Contents → Contents
takes c = record { opened = c.opened; packed = c.packed; pool = slot_taken c.pool }

abbrev pub fresh : ℕ → ℕ → Contents
fresh slots cells = record { opened = []; packed = []; pool = record { released = []; used = 0; slots = slots; linked = 0; cells = cells } }

abbrev pub opens : Extent → Contents → Contents
opens e c = record { opened = built (slot_next c.pool) e [] [] ∷ c.opened; packed = c.packed; pool = slot_taken c.pool }

-- ---- links

-- a real link more at the innermost object
abbrev pub linked : Link → Contents → Contents
linked l c = record { opened = extend l c.opened; packed = c.packed; pool = cell_taken c.pool }

-- a virtual link more at the innermost object
abbrev pub linked_virtual : ObjIdx → Contents → Contents
linked_virtual k c = record { opened = extend_virtual k c.opened; packed = c.packed; pool = cell_taken c.pool }

-- a virtual link more, to the object k, at the packed object n
abbrev pub ordered : ObjIdx → ℕ → Contents → Contents
ordered k n c = record { opened = c.opened; packed = lend (virtual_to k ∷ []) n c.packed; pool = cell_taken c.pool }

-- the innermost object with its first links only
abbrev pub cuts : ℕ → ℕ → Contents → Contents
cuts a b c = record { opened = cut_first a b c.opened; packed = c.packed; pool = with_linked c.pool (cut_cells a b c.opened c.pool.linked) }

-- ---- closing

-- the innermost object is open no more; its slot stays taken
abbrev pub closes : Contents → Contents
closes c = record { opened = behind c.opened; packed = c.packed; pool = c.pool }

-- the object packed last is packed no more; its slot stays taken
abbrev pub unstacks : Contents → Contents
unstacks c = record { opened = c.opened; packed = behind c.packed; pool = c.pool }

-- the slot of an object that is neither open nor packed is released
abbrev pub releases : Object → Contents → Contents
releases o c = record { opened = c.opened; packed = c.packed; pool = slot_back c.pool o.slot (links_of o) }

-- an object with another extent
abbrev pub laid : Extent → Object → Object
laid e o = built o.slot e o.real o.virtual

abbrev pub onto : Option Object → List Object → List Object
onto None os = os
onto (Some o) os = o ∷ os

-- the innermost object is packed, with another extent
abbrev pub packs : Extent → Contents → Contents
packs e c = record { opened = behind c.opened; packed = onto (option_map (laid e) (first c.opened)) c.packed; pool = c.pool }

-- the slot of an object, if there is one, is released with so many of its link cells
abbrev pub let_go : (Object → ℕ) → Option Object → Pool → Pool
let_go n None p = p
let_go n (Some o) p = slot_back p o.slot (n o)

-- the innermost object is released
abbrev pub discards : Contents → Contents
discards c = record { opened = behind c.opened; packed = c.packed; pool = let_go links_of (first c.opened) c.pool }

-- the object packed last is released
abbrev pub unpacks : Contents → Contents
unpacks c = record { opened = c.opened; packed = behind c.packed; pool = let_go links_of (first c.packed) c.pool }

abbrev pub real_links_of : Object → ℕ
real_links_of o = length o.real

-- the innermost object is released, and its virtual links join the packed object n
abbrev pub shares : ℕ → Contents → Contents
shares n c =
    record {
      opened = behind c.opened;
      packed = lend (virtual_of (first c.opened)) n c.packed;
      pool = let_go real_links_of (first c.opened) c.pool;
    }

-- ---- reading

abbrev pub outlined : Object → Outline
outlined o = record { slot = o.slot; extent = record { head = o.head; tail = o.tail }; num_real_links = length o.real; num_virtual_links = length o.virtual }

-- whether there are two objects, and they have the same real links
abbrev pub alike : Option Object → Option Object → Bool
alike None p = false
alike (Some o) None = false
alike (Some o) (Some p) = same_links o.real p.real
