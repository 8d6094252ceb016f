-- The calls that only read: flags, lengths, bytes, objects, links, and the output.
use Rattle.std.specs.Prelude.{ℕ, zero, suc, ◌-◌, Bool, true, false, List, [], ◌∷◌, ◌++◌, length, take, drop, Some, None, Option, nat_lt}
use Rattle.cursor.specs.declared.flags.SerializeErrorFlags.{SerializeErrorFlags}
use Rattle.cursor.specs.Flags.{none, out_of_room, offset_overflow, same_flags, contains, soft}
use Rattle.link.specs.declared.Link.{Link}
use Rattle.link.specs.declared.ObjIdx.{ObjIdx}
use Rattle.scalar.specs.Place.{part, write, read}
use Rattle.std.specs.Option.{option_map}
use Rattle.model.specs.State.{State, Object, numbered}
use Rattle.model.specs.Declining.{flagged}

-- ---- flags

abbrev pub error : State → SerializeErrorFlags
error s = s.flags

abbrev pub in_error : State → Bool
in_error s = flagged s

abbrev pub successful : State → Bool
successful s = same_flags s.flags none

abbrev pub ran_out_of_room : State → Bool
ran_out_of_room s = contains s.flags out_of_room

abbrev pub has_offset_overflow : State → Bool
has_offset_overflow s = contains s.flags offset_overflow

abbrev pub only_offset_overflow : State → Bool
only_offset_overflow s = same_flags s.flags offset_overflow

abbrev pub only_overflow : State → Bool
only_overflow s = soft s.flags

-- ---- lengths

abbrev pub allocated : State → ℕ
allocated s = length s.memory

abbrev pub packed_count : State → ℕ
packed_count s = length s.packed

-- head less the open object's head; 0 if that is negative, or nothing is open
abbrev pub open_length : State → ℕ
open_length s = elim s.opened [ [] ↦ 0 | o ∷ os ↦ s.head - o.head ]

-- ---- bytes

-- the scalar of a width that stands at a place, from the whole memory; none if it passes the end
abbrev pub value_at : {S : Type 0} → (List ℕ → S) → ℕ → ℕ → State → Option S
value_at reads width at s = read reads width s.memory at

-- the loose bytes, those below head, then those from tail to the end; nothing under a flag
abbrev pub output : State → List ℕ
output s = elim (flagged s) [ true ↦ [] | false ↦ take s.head s.memory ++ drop s.tail s.memory ]

-- all of it, or none if there is less room
abbrev pub copied : ℕ → State → Option (List ℕ)
copied room s = elim (nat_lt room (length (output s))) [ true ↦ None | false ↦ Some (output s) ]

-- the memory handed over, with the output at its start, or as it was
abbrev pub copied_to : List ℕ → Option (List ℕ) → List ℕ
copied_to m None = m
copied_to m (Some bs) = write m 0 bs

-- what the memory handed over holds then, and how many bytes were written
abbrev pub copy_bytes : List ℕ → State → List ℕ × Option ℕ
copy_bytes m s = (copied_to m (copied (length m) s), option_map length (copied (length m) s))

-- ---- objects and links

-- a packed object as it is read: its place, its bytes, and how many links it has
pub record Seen : Type 0 where
  pub head : ℕ
  pub tail : ℕ
  pub real : ℕ
  pub virtual : ℕ
  pub bytes : List ℕ

abbrev pub bytes_of : State → Object → List ℕ
bytes_of s p = part s.memory p.head p.tail

abbrev pub seen : State → Object → Seen
seen s p = record { head = p.head; tail = p.tail; real = length p.real; virtual = length p.virtual; bytes = bytes_of s p }

abbrev pub object : ObjIdx → State → Option Seen
object k s = option_map (seen s) (numbered s.packed k.0)

-- the i-th of a list, from 0
abbrev pub nth : List Link → ℕ → Option Link
nth [] i = None
nth (l ∷ ls) zero = Some l
nth (l ∷ ls) (suc i) = nth ls i

abbrev pub real_of : Option Object → List Link
real_of None = []
real_of (Some o) = o.real

abbrev pub virtual_of : Option Object → List Link
virtual_of None = []
virtual_of (Some o) = o.virtual

abbrev pub real_link : ObjIdx → ℕ → State → Option Link
real_link k i s = nth (real_of (numbered s.packed k.0)) i

abbrev pub virtual_link : ObjIdx → ℕ → State → Option Link
virtual_link k i s = nth (virtual_of (numbered s.packed k.0)) i
