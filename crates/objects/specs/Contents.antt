-- What an `Objects` stands for: the open objects, the packed ones, and the slots and link cells in use.
use Rattle.std.specs.Prelude.{ℕ, ◌+◌, ◌*◌, List, [], map, reverse, length, vec_items, vec_len, slice_index_or}
use Rattle.link.specs.declared.Link.{Link}
use Rattle.link.specs.declared.PoolIdx.{PoolIdx}
use Rattle.links.specs.Meaning.{lists, cells}
use Rattle.links.specs.Walk.{sum_of}
use Rattle.model.specs.State.{Object, Pool}
use Rattle.objects.specs.declared.extents.Extent.{Extent}
use Rattle.objects.specs.declared.state.Objects.{Objects}

-- as the model has them: the innermost open object first, and the one packed last first
pub record Contents : Type 0 where
  pub opened : List Object
  pub packed : List Object
  pub pool : Pool

-- what the fields hold
pub record Parts : Type 0 where
  pub extents : List Extent
  pub links : List (List Link)
  pub opened : List PoolIdx
  pub packed : List PoolIdx
  pub released : List PoolIdx
  pub used : ℕ
  pub slots : ℕ
  pub cells : ℕ

abbrev pub parts : Objects → Parts
parts s =
    record {
      extents = vec_items s.extents;
      links = lists s.links;
      opened = vec_items s.opened;
      packed = vec_items s.packed;
      released = vec_items s.released;
      used = s.used;
      slots = vec_len s.extents;
      cells = cells s.links;
    }

-- what is read past the last slot
abbrev pub nowhere : Extent
nowhere = record { head = 0; tail = 0 }

abbrev pub built : PoolIdx → Extent → List Link → List Link → Object
built i e rs vs = record { slot = i; head = e.head; tail = e.tail; real = rs; virtual = vs }

-- the object in a slot
abbrev pub in_slot : List Extent → List (List Link) → PoolIdx → Object
in_slot es ls i = built i (slice_index_or es i.0 nowhere) (slice_index_or ls (2 * i.0) []) (slice_index_or ls (2 * i.0 + 1) [])

-- the objects of a stack, its top first
abbrev pub stacked : List Extent → List (List Link) → List PoolIdx → List Object
stacked es ls is = reverse (map (in_slot es ls) is)

abbrev pub meaning : Parts → Contents
meaning p =
    record {
      opened = stacked p.extents p.links p.opened;
      packed = stacked p.extents p.links p.packed;
      pool = record { released = reverse p.released; used = p.used; slots = p.slots; linked = sum_of length p.links; cells = p.cells };
    }

-- shut, so that what is above this crate goes by the contracts alone
unfoldable pub contents : Objects → Contents
contents s = meaning (parts s)

-- the object in a slot
unfoldable pub object_at : Objects → PoolIdx → Object
object_at s i = in_slot (vec_items s.extents) (lists s.links) i
