-- What numbers name: the number that a closing answers, and which equal objects share one.
use Rattle.std.specs.Prelude.{◌≡◌, ℕ, ◌+◌, ◌<◌, ◌≤◌, Bool, true, false, ◌≢◌, ◌⊎◌, List, [], ◌∷◌, ◌++◌, Some}
use Rattle.cursor.specs.Flags.{hard}
use Rattle.link.specs.declared.Link.{Link}
use Rattle.scalar.specs.Place.{part}
use Rattle.model.specs.State.{State, Object, index, numbered}
use Rattle.model.specs.Closing.{object_hash}
use Rattle.model.specs.Reading.{bytes_of}
use Rattle.model.specs.Run.{Call, World, Beginning, run}
use Rattle.model.specs.Run.Call.{PopPack, OwnerStrike}
use Rattle.model.specs.Run.Answer.{Number}
use Rattle.model.specs.Moments.{at, answered, count, Through, Role, role}
use Rattle.model.specs.Moments.Role.{Reverts, RevertsElsewhere, Enters, Plain}

-- number k names an object of these bytes and real links
pub record Names (s : State) (k : ℕ) (bs : List ℕ) (ls : List Link) : Type 0 where
  pub object : Object
  pub named : numbered s.packed k ≡ Some object
  pub bytes : bytes_of s object ≡ bs
  pub links : object.real ≡ ls

-- the object of number k is entered: its number is held under its hash
pub record Entered (w : World) (k : ℕ) : Type 0 where
  pub object : Object
  pub named : numbered w.state.packed k ≡ Some object
  pub entered : w.register.has (object_hash w.state.memory object) k ≡ true

-- an entered object of these bytes and real links
pub record Twin (w : World) (k : ℕ) (bs : List ℕ) (ls : List Link) : Type 0 where
  pub names : Names w.state k bs ls
  pub entered : Entered w k

-- ---- the register's owner

abbrev pub entry : Role → ℕ
entry Enters = 1
entry Plain = 0
entry (Reverts n) = 0
entry RevertsElsewhere = 0

-- how often the owner entered a pair
abbrev pub entries : List Call → ℕ
entries [] = 0
entries (c ∷ cs) = entry (role c) + entries cs

-- the register is full, and that is its owner's doing: without what it held at first and the owner's entries it would not be
pub record OwnerFilled (b : Beginning) (cs : List Call) : Type 0 where
  pub full : (run b cs).register.capacity ≤ (run b cs).register.count
  pub entered : 0 < b.register.count + entries cs
  pub enough : (run b cs).register.capacity ≤ count (at b cs) + (b.register.count + entries cs)

-- ---- the law

-- what a closing that shares answers: the least entered equal object, or the next number if there is none, and then the object is entered
abbrev pub Shared : Beginning → List Call → ℕ → List ℕ → List Link → Type 0
Shared b cs k bs ls =
    (Twin (run b cs) k bs ls × ((j : ℕ) → j < k → Twin (run b cs) j bs ls → ⊥))
    ⊎ (((j : ℕ) → Twin (run b cs) j bs ls → ⊥) × (k ≡ count (at b cs)) × (Entered (run b (PopPack true ∷ cs)) k ⊎ OwnerFilled b cs))

-- after every run; o is the open object, and k the number that its closing answers
pub record LawB (b : Beginning) (cs : List Call) : Type 0 where
  -- the number names the bytes and real links of the object closed, as long as it stands and the serializer is not ended
  pub names : (share : Bool) (k : ℕ) (o : Object) (os : List Object) → (at b cs).opened ≡ o ∷ os → answered b (PopPack share ∷ cs) ≡ Number (Some (index k)) →
      (since : List Call) → Through (λ ds. (k < count (at b ds)) × ((at b ds).ended ≡ false)) since (PopPack share ∷ cs) →
      Names (at b (since ++ (PopPack share ∷ cs))) k (part (at b cs).memory o.head (at b cs).head) o.real
  pub shared : (k : ℕ) (o : Object) (os : List Object) → (at b cs).opened ≡ o ∷ os → answered b (PopPack true ∷ cs) ≡ Number (Some (index k)) →
      Shared b cs k (part (at b cs).memory o.head (at b cs).head) o.real
  -- an object with bytes is given a number, unless a hard flag stands or the serializer is ended
  pub given : (share : Bool) (o : Object) (os : List Object) → (at b cs).opened ≡ o ∷ os → o.head < (at b cs).head → hard (at b cs).flags ≡ false → (at b cs).ended ≡ false →
      (k : ℕ) × (answered b (PopPack share ∷ cs) ≡ Number (Some (index k)))
  -- without sharing the number is the count packed before
  pub unshared : (k : ℕ) → answered b (PopPack false ∷ cs) ≡ Number (Some (index k)) → k ≡ count (at b cs)
  -- an entered object stays entered as long as its number stands, unless its owner strikes its own pair
  pub stays : (c : Call) → (at b (c ∷ cs)).ended ≡ (at b cs).ended → (k : ℕ) (t : Entered (run b cs) k) →
      c ≢ OwnerStrike (object_hash (at b cs).memory t.object) (index k) → k < count (at b (c ∷ cs)) → Entered (run b (c ∷ cs)) k
