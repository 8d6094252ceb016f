-- The bytes of a count, for `check_assign` at each kind of count.
use Rattle.std.proofs.Common.{◌≡◌, ℕ, ◌≤◌, Bool, true, false, cond, leb, List, Some, None, Option, sym, refl, ap, ◌∙◌}
use Rattle.std.specs.Option.{option_map}
use Rattle.std.proofs.lemmas.Bool.{leb-true}
use Rattle.scalar.specs.BigEndian.{big_endian}
use Rattle.cursor.specs.declared.flags.SerializeErrorFlags.{SerializeErrorFlags}
use Rattle.model.specs.State.{State}
use Rattle.model.specs.Writing.{check_assign}
use Rattle.calls.specs.declared.scalar_value.CountKind.{CountKind}
use Rattle.calls.specs.Meaning.{count_bytes, count_most, count_width}

-- a value that stands for a count has the count's bytes
fitting : {S : Type 0} (bytes : S → List ℕ) (counting : ℕ → S) (most width n : ℕ) → (n ≤ most → bytes (counting n) ≡ big_endian width n) →
    option_map bytes (cond (leb n most) (Some (counting n)) None) ≡ cond (leb n most) (Some (big_endian width n)) None
fitting {S} bytes counting most width n e = by_test (leb n most) refl where
  by_test : (b : Bool) → leb n most ≡ b → option_map bytes (cond b (Some (counting n)) None) ≡ cond b (Some (big_endian width n)) None
  by_test true h = ap {B = Option (List ℕ)} Some (e (leb-true n most h))
  by_test false h = refl

-- so the call at a scalar of the kind is the call at the kind
pub checked : {S : Type 0} (bytes : S → List ℕ) (counting : ℕ → S) (at n : ℕ) (flags : SerializeErrorFlags) (s : State) {kind this : CountKind} → kind ≡ this →
    (n ≤ count_most this → bytes (counting n) ≡ big_endian (count_width this) n) →
    check_assign at (option_map bytes (cond (leb n (count_most this)) (Some (counting n)) None)) flags s ≡ check_assign at (count_bytes kind n) flags s
checked bytes counting at n flags s {kind} {this} is e =
    ap (λ (fit : Option (List ℕ)). check_assign at fit flags s) (fitting bytes counting (count_most this) (count_width this) n e ∙ ap (λ (k : CountKind). count_bytes k n) (sym is))
