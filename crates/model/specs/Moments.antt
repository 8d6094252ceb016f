-- Moments of a run: a run's suffix is an earlier moment, and `since ++ before` is the run `before` with the calls `since` made after it.
use Rattle.std.specs.Prelude.{ℕ, List, [], ◌∷◌, ◌++◌, length}
use Rattle.model.specs.State.{State}
use Rattle.model.specs.Run.{Call, Answer, Beginning, run}
use Rattle.model.specs.Run.Call.{SetErr, Start, Push, Allocate, Pad, Embed, Assign, CheckAssign, AddLink, AddVirtual, Repack, PopPack, PopDiscard, Snap, Revert, RevertForeign, End, Read, OwnerEnter, OwnerStrike}
use Rattle.model.specs.Run.Answer.{Nothing}

-- the state at a moment
abbrev pub at : Beginning → List Call → State
at b cs = (run b cs).state

-- what the last call answered
abbrev pub answered : Beginning → List Call → Answer
answered b cs = elim (run b cs).answers [ [] ↦ Nothing | a ∷ an ↦ a ]

-- how many bytes the memory has
abbrev pub span : Beginning → ℕ
span b = length (at b []).memory

-- how many objects are open, and packed
abbrev pub depth : State → ℕ
depth s = length s.opened

abbrev pub count : State → ℕ
count s = length s.packed

-- P holds at each moment from the run `before` on, through the calls `since`
abbrev pub Through : (List Call → Type 0) → List Call → List Call → Type 0
Through P [] before = P before
Through P (c ∷ since) before = P (c ∷ (since ++ before)) × Through P since before

-- what a call is to snapshots and to the register's owner
pub data Role : Type 0 where
  -- reverts to the snapshot of the n-th call, or to one from elsewhere
  Reverts : ℕ → Role
  RevertsElsewhere : Role
  -- the owner's entry
  Enters : Role
  Plain : Role

abbrev pub role : Call → Role
role (Revert n) = Reverts n
role (RevertForeign p) = RevertsElsewhere
role (OwnerEnter h k) = Enters
role (OwnerStrike h k) = Plain
role (SetErr f) = Plain
role Start = Plain
role Push = Plain
role (Allocate n z) = Plain
role (Pad n) = Plain
role (Embed bs) = Plain
role (Assign n bs) = Plain
role (CheckAssign n fit f) = Plain
role (AddLink x y k w i g) = Plain
role (AddVirtual k) = Plain
role (Repack k) = Plain
role (PopPack share) = Plain
role PopDiscard = Plain
role Snap = Plain
role End = Plain
role (Read q) = Plain
