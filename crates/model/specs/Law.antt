-- The law over all runs: every memory, every register, every list of calls. And the law of one run, at each of its moments.
use Rattle.std.specs.Prelude.{◌≡◌, ◌<◌, true, false, List, ◌∷◌, ◌++◌}
use Rattle.cursor.specs.Flags.{none}
use Rattle.register.specs.Pairs.{Counted}
use Rattle.model.specs.Run.{Call, Beginning}
use Rattle.model.specs.Run.Call.{End}
use Rattle.model.specs.Moments.{at, depth, count}
use Rattle.model.specs.Stacking.{LawA}
use Rattle.model.specs.Sharing.{LawB}
use Rattle.model.specs.Offsets.{LawC}

pub record LawStands : Type 0 where
  pub law_a : (b : Beginning) → Counted b.register → (cs : List Call) → LawA b cs
  pub law_b : (b : Beginning) → Counted b.register → (cs : List Call) → LawB b cs
  -- an ending over an open object and packed ones, without flags, ends the serializer
  pub ends : (b : Beginning) → Counted b.register → (cs : List Call) → (at b cs).ended ≡ false → (at b cs).flags ≡ none → 0 < depth (at b cs) → 0 < count (at b cs) → (at b (End ∷ cs)).ended ≡ true
  -- if no flag stands then
  pub law_c : (b : Beginning) → Counted b.register → (cs : List Call) → (at b cs).ended ≡ false → (at b (End ∷ cs)).ended ≡ true → (at b (End ∷ cs)).flags ≡ none → LawC b cs

-- ---- of one run

-- what holds at one moment: after the calls cs
pub record HoldsAfter (b : Beginning) (cs : List Call) : Type 0 where
  -- packed objects lie stacked from the end of memory, and no call but the ending writes them
  pub law_a : LawA b cs
  -- a number names what was closed under it, and equal objects share one
  pub law_b : LawB b cs
  -- an ending over an open object and packed ones, without flags, ends the serializer
  pub ends : (at b cs).ended ≡ false → (at b cs).flags ≡ none → 0 < depth (at b cs) → 0 < count (at b cs) → (at b (End ∷ cs)).ended ≡ true
  -- if an ending ends it here and no flag stands then, the output shows in each link's field how far its child is
  pub law_c : (at b cs).ended ≡ false → (at b (End ∷ cs)).ended ≡ true → (at b (End ∷ cs)).flags ≡ none → LawC b cs

-- the law of the run cs: what holds at each of its moments, the last and the first among them
abbrev pub Law : Beginning → List Call → Type 0
Law b cs = (since before : List Call) → cs ≡ since ++ before → HoldsAfter b before
