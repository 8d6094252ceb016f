-- The laws of the scalars: what makes bytes stand for values, and values for counts.
use Rattle.std.specs.Prelude.{◌≡◌, ℕ, suc, ◌/◌, ◌^◌, ◌≤◌, Bool, cond, List, length}
use Rattle.scalar.specs.BigEndian.{big_endian, Bytes}

-- the values that fit take one to four bytes; reading the bytes of a value gives it back, and any bytes are those of the value that they stand for
pub record ScalarLaws {S : Type 0} (width : ℕ) (bytes : S → List ℕ) (reads : List ℕ → S) (fits : S → Type 0) : Type 0 where
  pub wide : 1 ≤ width
  pub short : width ≤ 4
  pub sized : (x : S) → fits x → length (bytes x) ≡ width
  pub small : (x : S) → fits x → Bytes (bytes x)
  pub back : (x : S) → fits x → reads (bytes x) ≡ x
  pub again : (bs : List ℕ) → length bs ≡ width → Bytes bs → bytes (reads bs) ≡ bs

-- counts go up to the largest number that the bytes hold beside a sign, if there is one, and the bytes of a count show it
pub record CountLaws {S : Type 0} (width : ℕ) (bytes : S → List ℕ) (fits : S → Type 0) (signed : Bool) (most : ℕ) (counting : ℕ → S) : Type 0 where
  pub largest : suc most ≡ cond signed (256 ^ width / 2) (256 ^ width)
  pub held : (n : ℕ) → n ≤ most → fits (counting n)
  pub counted : (n : ℕ) → n ≤ most → bytes (counting n) ≡ big_endian width n
