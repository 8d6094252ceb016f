-- Live snapshots: those whose object, or none, is innermost again and was not closed, with no older snapshot reverted since.
use Rattle.std.specs.Prelude.{◌≡◌, ℕ, ◌≤◌, List, [], ◌∷◌, ◌++◌, length}
use Rattle.model.specs.Run.{Call, Beginning}
use Rattle.model.specs.Run.Call.{Snap}
use Rattle.model.specs.Moments.{at, depth, Through, Role, role}
use Rattle.model.specs.Moments.Role.{Reverts, RevertsElsewhere, Enters, Plain}

-- no snapshot older than that of the j-th call is reverted
abbrev pub NotOlder : ℕ → Role → Type 0
NotOlder j (Reverts i) = j ≤ i
NotOlder j RevertsElsewhere = ⊥
NotOlder j Enters = Unit {0}
NotOlder j Plain = Unit {0}

abbrev pub NoneOlder : ℕ → List Call → Type 0
NoneOlder j [] = Unit {0}
NoneOlder j (c ∷ cs) = NotOlder j (role c) × NoneOlder j cs

-- the snapshot that the j-th call took is live after the run cs
pub record Live (b : Beginning) (j : ℕ) (cs : List Call) : Type 0 where
  pub before : List Call
  pub since : List Call
  pub made : cs ≡ since ++ (Snap ∷ before)
  pub then : length before ≡ j
  pub again : depth (at b cs) ≡ depth (at b before)
  pub not_closed : Through (λ ds. depth (at b before) ≤ depth (at b ds)) since (Snap ∷ before)
  pub not_older : NoneOlder j since

-- a snapshot from elsewhere is never live
abbrev pub MayRevert : Beginning → Role → List Call → Type 0
MayRevert b (Reverts j) cs = Live b j cs
MayRevert b RevertsElsewhere cs = ⊥
MayRevert b Enters cs = Unit {0}
MayRevert b Plain cs = Unit {0}

-- no snapshot is reverted unless live
abbrev pub LiveRun : Beginning → List Call → Type 0
LiveRun b [] = Unit {0}
LiveRun b (c ∷ cs) = MayRevert b (role c) cs × LiveRun b cs
