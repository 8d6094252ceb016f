-- Numbers as the OpenType data types lay them out: a number of w bytes stands with its most significant byte first.
use Rattle.std.specs.Prelude.{◌≡◌, ℕ, zero, suc, ◌+◌, ◌*◌, ◌/◌, ◌%◌, ◌^◌, ◌<◌, List, [], ◌∷◌, length}
use Rattle.std.specs.List.{AllByRecursion}

-- the number that bytes show, the most significant first
abbrev pub number : List ℕ → ℕ
number [] = 0
number (b ∷ bs) = b * 256 ^ length bs + number bs

-- the w bytes that stand for n
abbrev pub big_endian : ℕ → ℕ → List ℕ
big_endian zero n = []
big_endian (suc k) n = (n / 256 ^ k % 256) ∷ big_endian k n

-- each of them is a byte
abbrev pub Bytes : List ℕ → Type 0
Bytes bs = AllByRecursion (λ b. b < 256) bs

-- what makes it a notation, at every width: a number has w bytes, which show what of it is below 256 ^ w, and any w bytes are those of the number that they show
pub record Notation : Type 0 where
  pub long : (w n : ℕ) → length (big_endian w n) ≡ w
  pub bytes : (w n : ℕ) → Bytes (big_endian w n)
  pub shown : (w n : ℕ) → number (big_endian w n) ≡ n % 256 ^ w
  pub back : (w n : ℕ) → n < 256 ^ w → number (big_endian w n) ≡ n
  pub below : (w : ℕ) (bs : List ℕ) → length bs ≡ w → Bytes bs → number bs < 256 ^ w
  pub again : (w : ℕ) (bs : List ℕ) → length bs ≡ w → Bytes bs → big_endian w (number bs) ≡ bs
