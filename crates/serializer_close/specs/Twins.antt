-- Which packed objects are like the one that is closed.
use Rattle.std.specs.Prelude.{ℕ, Bool, false, ◌&&◌, List, Some, None, Option}
use Rattle.link.specs.declared.Link.{Link}
use Rattle.scalar.specs.Place.{part}
use Rattle.model.specs.State.{State, Object, numbered}
use Rattle.model.specs.Closing.{same_bytes, same_links}
use Rattle.model.specs.Reading.{real_of}
use Rattle.objects.specs.Change.{first}

-- whether it is there, and has these bytes and real links
abbrev pub like : List ℕ → List ℕ → List Link → Option Object → Bool
like m bs ls None = false
like m bs ls (Some p) = same_bytes (part m p.head p.tail) bs && same_links p.real ls

-- whether the packed object k has the bytes from h to t and the real links of the innermost object
abbrev pub like_numbered : State → ℕ → ℕ → ℕ → Bool
like_numbered s h t k = like s.memory (part s.memory h t) (real_of (first s.opened)) (numbered s.packed k)
