-- Where packed objects lie: stacked from the end of memory down, and unwritten until the ending.
use Rattle.std.specs.Prelude.{◌≡◌, ℕ, ◌<◌, ◌≤◌, true, ◌≢◌, ◌⊎◌, List, [], ◌∷◌, Some}
use Rattle.cursor.specs.Flags.{hard}
use Rattle.model.specs.State.{Object, numbered}
use Rattle.model.specs.Reading.{bytes_of}
use Rattle.model.specs.Run.{Call, Beginning}
use Rattle.model.specs.Run.Call.{End}
use Rattle.model.specs.Moments.{at, span}

-- where the lowest of them starts, or the end e
abbrev pub lowest : ℕ → List Object → ℕ
lowest e [] = e
lowest e (p ∷ ps) = p.head

-- each object has bytes, and ends where the one packed before it starts, the first at e
abbrev pub Stacked : ℕ → List Object → Type 0
Stacked e [] = Unit {0}
Stacked e (p ∷ ps) = (p.head < p.tail) × (p.tail ≡ lowest e ps) × Stacked e ps

-- after every run
pub record LawA (b : Beginning) (cs : List Call) : Type 0 where
  pub stacked : Stacked (span b) (at b cs).packed
  -- the free bytes lie between head and tail, below every packed object
  pub apart : (at b cs).head ≤ (at b cs).tail
  pub under : (at b cs).tail ≤ lowest (span b) (at b cs).packed
  pub meets : (hard (at b cs).flags ≡ true) ⊎ ((at b cs).tail ≡ lowest (span b) (at b cs).packed)
  -- only `end_serialize` ends, and a call that does not end the serializer writes no byte of a packed object
  pub ending : (c : Call) → c ≢ End → (at b (c ∷ cs)).ended ≡ (at b cs).ended
  pub unwritten : (c : Call) → (at b (c ∷ cs)).ended ≡ (at b cs).ended →
      (k : ℕ) (p : Object) → numbered (at b cs).packed k ≡ Some p → bytes_of (at b (c ∷ cs)) p ≡ bytes_of (at b cs) p
