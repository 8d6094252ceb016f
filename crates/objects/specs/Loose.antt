-- A slot in use that stands on no stack, so that it can be put on any; and the slot of an object.
use Rattle.std.specs.Prelude.{◌≡◌, ◌+◌, ◌-◌, ◌<◌, length, Option}
use Rattle.std.specs.List.{slice_get}
use Rattle.link.specs.declared.PoolIdx.{PoolIdx}
use Rattle.objects.specs.declared.extents.Which.{Which}
use Rattle.objects.specs.declared.extents.Which.TheVariants.{Innermost, LastPacked, Numbered}
use Rattle.objects.specs.Slots.{occ}
use Rattle.objects.specs.Contents.{Parts}

pub record Loose (p : Parts) (x : PoolIdx) : Type 0 where
  pub taken : x.0 < p.used
  pub not_open : occ x.0 p.opened ≡ 0
  pub not_packed : occ x.0 p.packed ≡ 0
  pub not_released : occ x.0 p.released ≡ 0
  pub spare : length p.opened + length p.packed + length p.released < p.used

-- the slot of the object that is meant, if there is one: on top of its stack, or at the place of its number
abbrev pub slot_at : Which → Parts → Option PoolIdx
slot_at Innermost p = slice_get p.opened (length p.opened - 1)
slot_at LastPacked p = slice_get p.packed (length p.packed - 1)
slot_at (Numbered n) p = slice_get p.packed n.0
