-- The scalars that stand as numbers: once for every width, that they keep the laws. Used by the impls, which hand in that bytes show their number, so that a notation that is none is refused where a scalar is declared.
use Rattle.std.specs.Prelude.{◌≡◌, ℕ, zero, suc, ◌-◌, ◌%◌, ◌^◌, ◌<◌, ◌≤◌, false, List, length, refl}
use Rattle.std.proofs.Common.{ap, ◌∙◌, mod-eq_of_lt, arith}
use Rattle.scalar.specs.BigEndian.{number, big_endian, Bytes}
use Rattle.scalar.specs.Laws.{pow_pos, length_big_endian}
use Rattle.scalar.specs.Scalars.{ScalarLaws, CountLaws}

pub bytes_big_endian : (w n : ℕ) → Bytes (big_endian w n)
bytes_big_endian zero n = tt
bytes_big_endian (suc k) n = (omega arith, bytes_big_endian k n)

-- a scalar that stands as a number of w bytes, and is one with that number, keeps the laws, since bytes show their number
pub as_number : {S : Type 0} (w : ℕ) (fits : S → Type 0) (to : S → ℕ) (from : ℕ → S) → 1 ≤ w → w ≤ 4
    → ((n : ℕ) → number (big_endian w n) ≡ n % 256 ^ w)
    → ((bs : List ℕ) → length bs ≡ w → Bytes bs → (number bs < 256 ^ w) × (big_endian w (number bs) ≡ bs))
    → ((x : S) → fits x → to x < 256 ^ w) → ((x : S) → fits x → from (to x) ≡ x) → ((n : ℕ) → n < 256 ^ w → to (from n) ≡ n)
    → ScalarLaws w (λ x. big_endian w (to x)) (λ bs. from (number bs)) fits
as_number w fits to from l m shows shown below there back =
    record {
      wide = l;
      short = m;
      sized = λ x u. length_big_endian w (to x);
      small = λ x u. bytes_big_endian w (to x);
      back = λ x u. ap from (shows (to x) ∙ mod-eq_of_lt (below x u)) ∙ there x u;
      again = λ bs n e. let s = shown bs n e in ap (big_endian w) (back (number bs) s.0) ∙ s.1;
    }

-- as an unsigned number of w bytes does
pub unsigned : (w : ℕ) → 1 ≤ w → w ≤ 4
    → ((n : ℕ) → number (big_endian w n) ≡ n % 256 ^ w)
    → ((bs : List ℕ) → length bs ≡ w → Bytes bs → (number bs < 256 ^ w) × (big_endian w (number bs) ≡ bs))
    → ScalarLaws w (big_endian w) number (λ n. n < 256 ^ w)
unsigned w l m shows shown = as_number w (λ n. n < 256 ^ w) (λ n. n) (λ n. n) l m shows shown (λ n u. u) (λ n u. refl) (λ n u. refl)

-- and every number that they hold is a count
pub unsigned_counts : (w : ℕ) → CountLaws w (big_endian w) (λ n. n < 256 ^ w) false (256 ^ w - 1) (λ n. n)
unsigned_counts w =
    let some = pow_pos w in
    record { largest = omega arith; held = λ n l. omega arith; counted = λ n l. refl }
