-- The call of the model that a call stands for: a scalar goes by its bytes, and a count by its bytes if it fits.
use Rattle.std.specs.Prelude.{ℕ, cond, List, Some, None, Option, nat_le}
use Rattle.std.specs.Int.{cast_unsigned, w16}
use Rattle.scalar.specs.BigEndian.{big_endian}
use Rattle.model.specs.Run as model
use Rattle.calls.specs.declared.scalar_value.ScalarValue.{ScalarValue}
use Rattle.calls.specs.declared.scalar_value.ScalarValue.TheVariants as value
use Rattle.calls.specs.declared.scalar_value.ScalarKind.{ScalarKind}
use Rattle.calls.specs.declared.scalar_value.ScalarKind.TheVariants as kind
use Rattle.calls.specs.declared.scalar_value.CountKind.{CountKind}
use Rattle.calls.specs.declared.scalar_value.CountKind.TheVariants as count
use Rattle.calls.specs.declared.call.Reading.{Reading}
use Rattle.calls.specs.declared.call.Reading.TheVariants as reading
use Rattle.calls.specs.declared.call.Call.{Call}
use Rattle.calls.specs.declared.call.Call.TheVariants as call

abbrev pub scalar_bytes : ScalarValue → List ℕ
scalar_bytes (value.U8 x) = big_endian 1 x
scalar_bytes (value.U16 x) = big_endian 2 x
scalar_bytes (value.I16 x) = big_endian 2 (cast_unsigned w16 x)
scalar_bytes (value.U32 x) = big_endian 4 x
scalar_bytes (value.U24 x) = big_endian 3 x
scalar_bytes (value.Tag x) = x.0

abbrev pub kind_of_value : ScalarValue → ScalarKind
kind_of_value (value.U8 x) = kind.U8
kind_of_value (value.U16 x) = kind.U16
kind_of_value (value.I16 x) = kind.I16
kind_of_value (value.U32 x) = kind.U32
kind_of_value (value.U24 x) = kind.U24
kind_of_value (value.Tag x) = kind.Tag

abbrev pub kind_of_count : CountKind → ScalarKind
kind_of_count count.U8 = kind.U8
kind_of_count count.U16 = kind.U16
kind_of_count count.I16 = kind.I16
kind_of_count count.U32 = kind.U32
kind_of_count count.U24 = kind.U24

abbrev pub width_of : ScalarKind → ℕ
width_of kind.U8 = 1
width_of kind.U16 = 2
width_of kind.I16 = 2
width_of kind.U32 = 4
width_of kind.U24 = 3
width_of kind.Tag = 4

abbrev pub count_width : CountKind → ℕ
count_width k = width_of (kind_of_count k)

-- the largest count that a kind holds
abbrev pub count_most : CountKind → ℕ
count_most count.U8 = 255
count_most count.U16 = 65535
count_most count.I16 = 32767
count_most count.U32 = 4294967295
count_most count.U24 = 16777215

abbrev pub count_bytes : CountKind → ℕ → Option (List ℕ)
count_bytes k n = cond (nat_le n (count_most k)) (Some (big_endian (count_width k) n)) None

abbrev pub reading_of : Reading → model.Reading
reading_of reading.Error = model.Reading.Error
reading_of reading.InError = model.Reading.InError
reading_of reading.Successful = model.Reading.Successful
reading_of reading.RanOutOfRoom = model.Reading.RanOutOfRoom
reading_of reading.OffsetOverflow = model.Reading.OffsetOverflow
reading_of reading.OnlyOffsetOverflow = model.Reading.OnlyOffsetOverflow
reading_of reading.OnlyOverflow = model.Reading.OnlyOverflow
reading_of reading.Head = model.Reading.Head
reading_of reading.Tail = model.Reading.Tail
reading_of reading.Allocated = model.Reading.Allocated
reading_of reading.PackedCount = model.Reading.PackedCount
reading_of reading.Length = model.Reading.Length
reading_of reading.LastAddedChildIndex = model.Reading.LastAddedChild
reading_of (reading.GetValueAt k n) = model.Reading.ValueAt (width_of k) n
reading_of (reading.CopyBytes room) = model.Reading.CopyBytes room
reading_of (reading.Object k) = model.Reading.ObjectAt k
reading_of (reading.RealLink k i) = model.Reading.RealLink k i
reading_of (reading.VirtualLink k i) = model.Reading.VirtualLink k i

abbrev pub call_of : Call → model.Call
call_of (call.SetErr f) = model.Call.SetErr f
call_of call.StartSerialize = model.Call.Start
call_of call.Push = model.Call.Push
call_of (call.AllocateSize n clear) = model.Call.Allocate n clear
call_of (call.Pad n) = model.Call.Pad n
call_of (call.Embed x) = model.Call.Embed (scalar_bytes x)
call_of (call.EmbedBytes bs) = model.Call.Embed bs.now
call_of (call.CopyAssign n x) = model.Call.Assign n (scalar_bytes x)
call_of (call.CopyAssignFromBytes n bs) = model.Call.Assign n bs.now
call_of (call.CheckAssign n k c f) = model.Call.CheckAssign n (count_bytes k c) f
call_of (call.AddLink from to k w bias signed) = model.Call.AddLink from to k w bias signed
call_of (call.AddVirtualLink k) = model.Call.AddVirtual k
call_of (call.RepackLast k) = model.Call.Repack k
call_of (call.PopPack share) = model.Call.PopPack share
call_of call.PopDiscard = model.Call.PopDiscard
call_of call.Snapshot = model.Call.Snap
call_of (call.RevertSnapshot n) = model.Call.Revert n
call_of call.EndSerialize = model.Call.End
call_of (call.Read q) = model.Call.Read (reading_of q)
call_of (call.Enter h k) = model.Call.OwnerEnter h k
call_of (call.Strike h k) = model.Call.OwnerStrike h k
