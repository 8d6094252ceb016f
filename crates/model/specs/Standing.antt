-- What stands once it stands: hard flags, and the whole of an ended serializer.
use Rattle.std.specs.Prelude.{◌≡◌, true, List, ◌∷◌, ◌++◌}
use Rattle.cursor.specs.declared.flags.SerializeErrorFlags.{SerializeErrorFlags}
use Rattle.cursor.specs.Flags.{joined, hard}
use Rattle.model.specs.Run.{Call, Beginning}
use Rattle.model.specs.Moments.{at}

-- after every run, whatever snapshots are reverted
pub record Stands (b : Beginning) (cs : List Call) : Type 0 where
  -- to a hard set a call only joins flags
  pub joins : (c : Call) → hard (at b cs).flags ≡ true → (f : SerializeErrorFlags) × ((at b (c ∷ cs)).flags ≡ joined (at b cs).flags f)
  pub stays_hard : (since : List Call) → hard (at b cs).flags ≡ true → hard (at b (since ++ cs)).flags ≡ true
  -- an ended serializer does not change
  pub stays_ended : (since : List Call) → (at b cs).ended ≡ true → at b (since ++ cs) ≡ at b cs

pub record Standing : Type 0 where
  pub stands : (b : Beginning) (cs : List Call) → Stands b cs
