-- Whether an object is open, as its outline tells.
use Rattle.std.proofs.Common.{◌≡◌, Bool, true, false, not, List, [], ◌∷◌, is_some, sym}
use Rattle.std.specs.Option.{option_map}
use Rattle.std.proofs.lemmas.Bool.{not-true, not-false}
use Rattle.model.specs.State.{Object}
use Rattle.objects.specs.Change.{first, outlined}

pub none_read : (os : List Object) (r : Bool) → is_some (option_map outlined (first os)) ≡ not r → r ≡ elim os [ [] ↦ true | ◌∷◌ o ps ↦ false ]
none_read [] r e = not-false r (sym e)
none_read (◌∷◌ o os) r e = not-true r (sym e)
