-- A number of three bytes as what its value is checked to be, and an array of four bytes as a tag's. Used where they are made and taken apart.
use Rattle.std.proofs.Common.{◌≡◌, ℕ, ◌^◌, ◌<◌, List, length, get_or, Ok, sym, ap, ◌∙◌}
use Rattle.std.proofs.ByRecursion.{All-from_get_or}
use Rattle.std.proofs.lemmas.Bool.{cond_below}
use Rattle.scalar.specs.BigEndian.{Bytes}
use Rattle.scalar.specs.Kinds.{checked}
use Rattle.scalar.specs.Small.{uint24_again}
use Rattle.scalar.specs.declared.kinds.Uint24.{Uint24}

pub checked_again : (x : Uint24) → Ok x ≡ checked x.value
checked_again x = ap Ok (sym (uint24_again x)) ∙ cond_below x.value (256 ^ 3) _ _ x.small

pub four_bytes : (bs : List ℕ) → length bs ≡ 4 → ((i : ℕ) → get_or bs i 0 < 256) → (length bs ≡ 4) × Bytes bs
four_bytes bs l small = (l, All-from_get_or (λ b. b < 256) bs 0 (λ i h. small i))
