-- What is read at a place.
use Rattle.std.proofs.Common.{◌≡◌, ℕ, ◌+◌, ◌<◌, true, false, cond, List, get_or, Some, None, refl, ap, ◌∙◌, arith}
use Rattle.std.specs.Option.{option_map}
use Rattle.std.proofs.ByRecursion.{All-from_get_or}
use Rattle.std.proofs.lemmas.List.{places}
use Rattle.std.proofs.lemmas.List.Edits.{length-between}
use Rattle.std.proofs.lemmas.Bool.{leb-true}
use Rattle.scalar.specs.BigEndian.{Bytes}
use Rattle.scalar.specs.Place.{room, part, read}
use Rattle.scalar.specs.Scalars.{ScalarLaws}

-- a part of bytes is one of bytes
part_bytes : (m : List ℕ) (from to : ℕ) → ((i : ℕ) → get_or m i 0 < 256) → Bytes (part m from to)
part_bytes m from to small = All-from_get_or (λ b. b < 256) (part m from to) 0 (λ i h. grind (arith, places, small))

-- the bytes of what is read are those that stand there
pub bytes_read : {S : Type 0} {w : ℕ} {bytes : S → List ℕ} {reads : List ℕ → S} {fits : S → Type 0} → ScalarLaws w bytes reads fits →
    (m : List ℕ) (at : ℕ) → ((i : ℕ) → get_or m i 0 < 256) → option_map bytes (read reads w m at) ≡ read (λ bs. bs) w m at
bytes_read {S} {w} {bytes} {reads} laws m at small =
    let bs = part m at (at + w) in
    let same : room m at w ≡ true → bytes (reads bs) ≡ bs = λ has. laws.again bs (length-between m at (at + w) (leb-true _ _ has) ∙ omega arith) (part_bytes m at (at + w) small) in
    elim (room m at w) as (λ r. (r ≡ true → bytes (reads bs) ≡ bs) → option_map bytes (cond r (Some (reads bs)) None) ≡ cond r (Some bs) None) [
      | true ↦ λ h. ap Some (h refl)
      | false ↦ λ h. refl
    ] same
