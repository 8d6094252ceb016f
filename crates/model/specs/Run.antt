-- Runs: a list of calls over one serializer and one register, the last call first. The owner's changes of the register are calls too.
use Rattle.std.specs.Prelude.{ℕ, Bool, true, false, List, [], ◌∷◌, length, Some, None, Option, Result, ◌==◌}
use Rattle.cursor.specs.declared.flags.SerializeErrorFlags.{SerializeErrorFlags}
use Rattle.link.specs.declared.Link.{Link}
use Rattle.link.specs.declared.ObjIdx.{ObjIdx}
use Rattle.link.specs.declared.OffsetWhence.{OffsetWhence}
use Rattle.register.specs.Pairs.{Pairs, fits, entered, struck}
use Rattle.model.specs.declared.snapshot.Snapshot.{Snapshot}
use Rattle.model.specs.State.{State}
use Rattle.model.specs.Declining.{set_err}
use Rattle.model.specs.Opening.{push, start_serialize}
use Rattle.model.specs.Writing.{allocate_size, pad, embed_bytes, copy_assign, check_assign}
use Rattle.model.specs.Linking.{add_link, add_virtual_link, repack_last, last_added_child_index}
use Rattle.model.specs.Closing.{Out, out, pop_pack}
use Rattle.model.specs.Rewinding.{pop_discard, snapshot, revert_snapshot}
use Rattle.model.specs.Ending.{end_serialize}
use Rattle.model.specs.Reading as read
use Rattle.model.specs.Reading.{Seen}
use Rattle.model.specs.New.{new}

-- ---- calls and answers

-- the calls that only read
pub data Reading : Type 0 where
  Error InError Successful RanOutOfRoom OffsetOverflow OnlyOffsetOverflow OnlyOverflow : Reading
  Head Tail Allocated PackedCount Length LastAddedChild : Reading
  -- the bytes of a scalar: width and place
  ValueAt : ℕ → ℕ → Reading
  -- into so many bytes
  CopyBytes : ℕ → Reading
  ObjectAt : ObjIdx → Reading
  RealLink : ObjIdx → ℕ → Reading
  VirtualLink : ObjIdx → ℕ → Reading

pub data Call : Type 0 where
  SetErr : SerializeErrorFlags → Call
  Start : Call
  Push : Call
  Allocate : ℕ → Bool → Call
  Pad : ℕ → Call
  -- `embed`, by the scalar's bytes, and `embed_bytes`
  Embed : List ℕ → Call
  -- `copy_assign`, by the scalar's bytes, and `copy_assign_from_bytes`
  Assign : ℕ → List ℕ → Call
  -- `check_assign`, by the bytes of the count, if it fits
  CheckAssign : ℕ → Option (List ℕ) → SerializeErrorFlags → Call
  -- from, to, number, whence, bias, signed
  AddLink : ℕ → ℕ → ObjIdx → OffsetWhence → ℕ → Bool → Call
  AddVirtual : ObjIdx → Call
  Repack : ObjIdx → Call
  PopPack : Bool → Call
  PopDiscard : Call
  Snap : Call
  -- to the snapshot that the n-th call of this run took, counted from 0
  Revert : ℕ → Call
  -- to a snapshot from elsewhere
  RevertForeign : Snapshot → Call
  End : Call
  Read : Reading → Call
  -- the register's owner enters or strikes a pair
  OwnerEnter : ℕ → ObjIdx → Call
  OwnerStrike : ℕ → ObjIdx → Call

pub data Answer : Type 0 where
  Nothing : Answer
  Done : Result (Unit {0}) SerializeErrorFlags → Answer
  Place : Result ℕ SerializeErrorFlags → Answer
  Number : Option ObjIdx → Answer
  Flags : SerializeErrorFlags → Answer
  Whether : Bool → Answer
  Amount : ℕ → Answer
  Bytes : Option (List ℕ) → Answer
  Object : Option Seen → Answer
  Linked : Option Link → Answer
  Taken : Snapshot → Answer

abbrev pub reading : Reading → State → Answer
reading Reading.Error s = Flags (read.error s)
reading Reading.InError s = Whether (read.in_error s)
reading Reading.Successful s = Whether (read.successful s)
reading Reading.RanOutOfRoom s = Whether (read.ran_out_of_room s)
reading Reading.OffsetOverflow s = Whether (read.has_offset_overflow s)
reading Reading.OnlyOffsetOverflow s = Whether (read.only_offset_overflow s)
reading Reading.OnlyOverflow s = Whether (read.only_overflow s)
reading Reading.Head s = Amount s.head
reading Reading.Tail s = Amount s.tail
reading Reading.Allocated s = Amount (read.allocated s)
reading Reading.PackedCount s = Amount (read.packed_count s)
reading Reading.Length s = Amount (read.open_length s)
reading Reading.LastAddedChild s = Number (last_added_child_index s)
reading (Reading.ValueAt w n) s = Bytes (read.value_at (λ bs. bs) w n s)
reading (Reading.CopyBytes room) s = Bytes (read.copied room s)
reading (Reading.ObjectAt k) s = Object (read.object k s)
reading (Reading.RealLink k i) s = Linked (read.real_link k i s)
reading (Reading.VirtualLink k i) s = Linked (read.virtual_link k i s)

-- ---- one call

abbrev pub only : {A : Type 0} → (A → Answer) → State × A → Pairs → Out Answer
only f q r = out q.0 r (f q.1)

abbrev pub said : {A : Type 0} → (A → Answer) → Out A → Out Answer
said f o = out o.state o.register (f o.answer)

abbrev pub unsaid : Out (Unit {0}) → Out Answer
unsaid o = said (λ u. Nothing) o

abbrev pub taken : Answer → Option Snapshot
taken (Taken p) = Some p
taken Nothing = None
taken (Done x) = None
taken (Place x) = None
taken (Number x) = None
taken (Flags x) = None
taken (Whether x) = None
taken (Amount x) = None
taken (Bytes x) = None
taken (Object x) = None
taken (Linked x) = None

-- the snapshot that the n-th answer was, the answers standing last first
abbrev pub taken_at : List Answer → ℕ → Option Snapshot
taken_at [] n = None
taken_at (a ∷ an) n = elim (length an == n) [ true ↦ taken a | false ↦ taken_at an n ]

-- nothing, if there is no such snapshot
abbrev pub revert_to : Option Snapshot → State → Pairs → Out (Unit {0})
revert_to None s r = out s r tt
revert_to (Some p) s r = revert_snapshot p s r

abbrev pub call : Call → State → Pairs → List Answer → Out Answer
call (SetErr f) s r an = only Flags (set_err f s) r
call Start s r an = only Done (start_serialize s) r
call Push s r an = only Done (push s) r
call (Allocate n c) s r an = only Place (allocate_size n c s) r
call (Pad n) s r an = only Place (pad n s) r
call (Embed bs) s r an = only Place (embed_bytes bs s) r
call (Assign n bs) s r an = out (copy_assign n bs s) r Nothing
call (CheckAssign n fit f) s r an = only Done (check_assign n fit f s) r
call (AddLink a b k w i g) s r an = only Done (add_link a b k w i g s) r
call (AddVirtual k) s r an = only Done (add_virtual_link k s) r
call (Repack k) s r an = only Done (repack_last k s) r
call (PopPack b) s r an = said Number (pop_pack b s r)
call PopDiscard s r an = unsaid (pop_discard s r)
call Snap s r an = out s r (Taken (snapshot s))
call (Revert n) s r an = unsaid (revert_to (taken_at an n) s r)
call (RevertForeign p) s r an = unsaid (revert_snapshot p s r)
call End s r an = unsaid (end_serialize s r)
call (Read q) s r an = out s r (reading q s)
call (OwnerEnter h k) s r an = out s (entered r h k.0) (Whether (fits r h k.0))
call (OwnerStrike h k) s r an = out s (struck r h k.0) Nothing

-- ---- a run

-- the state, the register, and the answers so far, last first
pub record World : Type 0 where
  pub state : State
  pub register : Pairs
  pub answers : List Answer

-- how much memory there is, and what the register shown to `new` means
pub record Beginning : Type 0 where
  pub size : ℕ
  pub slots : ℕ
  pub cells : ℕ
  pub register : Pairs

abbrev pub after : Out Answer → List Answer → World
after o an = record { state = o.state; register = o.register; answers = o.answer ∷ an }

abbrev pub step : Call → World → World
step c w = after (call c w.state w.register w.answers) w.answers

abbrev pub run : Beginning → List Call → World
run b [] = record { state = new b.size b.slots b.cells b.register.capacity; register = b.register; answers = [] }
run b (c ∷ cs) = step c (run b cs)
