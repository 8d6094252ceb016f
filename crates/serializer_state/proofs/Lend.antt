-- Virtual links that join a packed object move no object. Used where objects are ordered and shared.
use Rattle.std.proofs.Common.{◌≡◌, ℕ, Bool, true, false, ◌&&◌, eqb, leb, List, [], ◌∷◌, ◌++◌, length, refl, ap}
use Rattle.link.specs.declared.Link.{Link}
use Rattle.model.specs.State.{Object}
use Rattle.model.specs.Linking.{lend}
use Rattle.serializer_state.specs.Extents.{lying}

pub lying_lend : (n : ℕ) (vs : List Link) (k : ℕ) (ps : List Object) → lying n (lend vs k ps) ≡ lying n ps
lying_lend n vs k [] = refl
lying_lend n vs k (◌∷◌ p ps) = go (lying_lend n vs k ps) (eqb (length ps) k)
  where
    go : lying n (lend vs k ps) ≡ lying n ps → (b : Bool) → lying n (elim b [ true ↦ ◌∷◌ (record { slot = p.slot; head = p.head; tail = p.tail; real = p.real; virtual = p.virtual ++ vs }) ps | false ↦ ◌∷◌ p (lend vs k ps) ]) ≡ lying n (◌∷◌ p ps)
    go e true = refl
    go e false = ap (λ (x : Bool). leb p.head p.tail && (leb p.tail n && x)) e
