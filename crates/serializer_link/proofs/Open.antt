-- The real links of the innermost object, against the list of the open ones.
use Rattle.std.proofs.Common.{◌≡◌, List, [], ◌∷◌, refl}
use Rattle.model.specs.State.{Object}
use Rattle.model.specs.Reading.{real_of}
use Rattle.objects.specs.Change.{first}

pub real_open : (os : List Object) → real_of (first os) ≡ elim os [ [] ↦ [] | ◌∷◌ p ps ↦ p.real ]
real_open [] = refl
real_open (◌∷◌ o os) = refl
