-- A register that was empty at first and that its owner leaves alone: it never answers no, and no two equal objects are both entered.
use Rattle.std.specs.Prelude.{◌≡◌, ℕ, true, false, List, ◌∷◌, Some}
use Rattle.link.specs.declared.Link.{Link}
use Rattle.register.specs.Pairs.{fits, Counted}
use Rattle.model.specs.State.{Object, index}
use Rattle.model.specs.Run.{Call, Beginning, run}
use Rattle.model.specs.Run.Call.{PopPack}
use Rattle.model.specs.Run.Answer.{Number}
use Rattle.model.specs.Moments.{at, answered}
use Rattle.model.specs.Sharing.{Entered, Twin, entries}

-- the register was empty at first, and its owner entered nothing
pub record LeftAlone (b : Beginning) (cs : List Call) : Type 0 where
  pub counted : Counted b.register
  pub empty : b.register.count ≡ 0
  pub untouched : entries cs ≡ 0

pub record Owning : Type 0 where
  -- whatever is entered while an object is open is held then
  pub yes : (b : Beginning) (cs : List Call) → LeftAlone b cs → (at b cs).ended ≡ false → (o : Object) (os : List Object) → (at b cs).opened ≡ o ∷ os → (h k : ℕ) → fits (run b cs).register h k ≡ true
  -- a closing that shares answers an entered object
  pub shared : (b : Beginning) (cs : List Call) → LeftAlone b cs → (k : ℕ) → answered b (PopPack true ∷ cs) ≡ Number (Some (index k)) → Entered (run b (PopPack true ∷ cs)) k
  -- one entered object to the same bytes and real links
  pub alone : (b : Beginning) (cs : List Call) → LeftAlone b cs → (at b cs).ended ≡ false → (bs : List ℕ) (ls : List Link) (j k : ℕ) → Twin (run b cs) j bs ls → Twin (run b cs) k bs ls → j ≡ k
