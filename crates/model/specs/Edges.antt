-- With live snapshots only: head is never below the open object's own, and every rewind meets an edge.
use Rattle.std.specs.Prelude.{◌≡◌, ℕ, ◌≤◌, ◌⊎◌, List, ◌∷◌}
use Rattle.model.specs.State.{Object}
use Rattle.model.specs.Run.{Call, Beginning}
use Rattle.model.specs.Run.Call.{PopDiscard, Revert}
use Rattle.model.specs.Moments.{at}
use Rattle.model.specs.Liveness.{Live, LiveRun}

pub record Edges : Type 0 where
  -- no object is closed with head below its own
  pub above : (b : Beginning) (cs : List Call) → LiveRun b cs → (o : Object) (os : List Object) → (at b cs).opened ≡ o ∷ os → o.head ≤ (at b cs).head
  -- a discard sets no flag
  pub discards : (b : Beginning) (cs : List Call) → LiveRun b cs → (at b (PopDiscard ∷ cs)).flags ≡ (at b cs).flags
  -- a revert leaves the flags or restores those of the snapshot, and adds none
  pub reverts : (b : Beginning) (cs : List Call) → LiveRun b cs → (j : ℕ) (live : Live b j cs) →
      ((at b (Revert j ∷ cs)).flags ≡ (at b cs).flags) ⊎ ((at b (Revert j ∷ cs)).flags ≡ (at b live.before).flags)
