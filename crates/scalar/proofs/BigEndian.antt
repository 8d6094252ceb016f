-- What big-endian bytes are, for every width: how many, each below 256, showing the number they stand for, and the only ones that do.
use Rattle.std.specs.Prelude.{◌≡◌, ℕ, ◌^◌, ◌<◌, List, length}
use Rattle.std.proofs.Common.{◌∙◌, mod-eq_of_lt}
use Rattle.scalar.specs.BigEndian.{number, big_endian, Bytes, Notation}
use Rattle.scalar.specs.Laws.{length_big_endian, number_big_endian, number_shown}
use Rattle.scalar.specs.Numbers.{bytes_big_endian}

pub number_back : (w n : ℕ) → n < 256 ^ w → number (big_endian w n) ≡ n
number_back w n l = number_big_endian w n ∙ mod-eq_of_lt l

pub number_below : (w : ℕ) (bs : List ℕ) → length bs ≡ w → Bytes bs → number bs < 256 ^ w
number_below w bs l e = (number_shown w bs l e).0

pub big_endian_again : (w : ℕ) (bs : List ℕ) → length bs ≡ w → Bytes bs → big_endian w (number bs) ≡ bs
big_endian_again w bs l e = (number_shown w bs l e).1

pub notation : Notation
notation =
    record {
      long = length_big_endian;
      bytes = bytes_big_endian;
      shown = number_big_endian;
      back = number_back;
      below = number_below;
      again = big_endian_again;
    }
