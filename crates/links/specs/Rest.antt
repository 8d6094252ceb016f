-- What is still to come on the way through a list, and what a step takes from it.
use Rattle.std.specs.Prelude.{◌≡◌, List, [], ◌∷◌, Some, None, vec_items, Option}
use Rattle.link.specs.declared.Link.{Link}
use Rattle.links.specs.declared.state.iters.LinkIter.{LinkIter}
use Rattle.links.specs.Walk.{walk}
use Rattle.links.specs.Meaning.{links_at}

-- the links that are still to come
unfoldable pub rest : LinkIter → List Link
rest w = links_at (vec_items w.owner.now.links) (walk (vec_items w.owner.now.nexts) w.cell w.left)

-- of xs the first link is given, and ys is left; none is given where none is left
abbrev pub Step : List Link → Option Link → List Link → Type 0
Step xs None ys = (xs ≡ []) × (ys ≡ [])
Step xs (Some x) ys = xs ≡ x ∷ ys
