-- What the laws of the scalars rest on, for every width: the number that the bytes of a number show, and the bytes of the number that bytes show.
use Rattle.std.specs.Prelude.{◌≡◌, ℕ, zero, suc, ◌+◌, ◌*◌, ◌/◌, ◌%◌, ◌^◌, ◌<◌, List, [], ◌∷◌, length, refl}
use Rattle.std.proofs.Common.{sym, ap, ◌∙◌, subst, mod-lt, mod-eq_of_lt, arith}
use Rattle.std.proofs.Math.Nat.{one-le-pow, pow-succ', mod-one, mul-add-mod_self_right}
use Rattle.std.proofs.Math.Arith.{mod-mul, digits_lt, digits_div, digits_mod}
use Rattle.scalar.specs.BigEndian.{number, big_endian, Bytes}

pub length_big_endian : (w n : ℕ) → length (big_endian w n) ≡ w
length_big_endian zero n = refl
length_big_endian (suc k) n = ap suc (length_big_endian k n)

pub pow_pos : (k : ℕ) → 0 < 256 ^ k
pow_pos k = one-le-pow k 256 (omega arith)

-- the lowest k + 1 bytes of n: one byte, then k
low : (n k : ℕ) → n % 256 ^ suc k ≡ (n / 256 ^ k % 256) * 256 ^ k + n % 256 ^ k
low n k = ap (λ (m : ℕ). n % m) (pow-succ' 256 k) ∙ mod-mul n (omega arith) (pow_pos k)

pub number_big_endian : (w n : ℕ) → number (big_endian w n) ≡ n % 256 ^ w
number_big_endian zero n = sym (mod-one n)
number_big_endian (suc k) n =
    ap (λ (l : ℕ). (n / 256 ^ k % 256) * 256 ^ l + number (big_endian k n)) (length_big_endian k n)
    ∙ ap (λ (m : ℕ). (n / 256 ^ k % 256) * 256 ^ k + m) (number_big_endian k n)
    ∙ sym (low n k)

-- only what is left below 256 ^ w counts
pub big_endian_same : (w m n : ℕ) → m % 256 ^ w ≡ n % 256 ^ w → big_endian w m ≡ big_endian w n
big_endian_same zero m n e = refl
big_endian_same (suc k) m n e =
    let p = sym (low m k) ∙ e ∙ low n k in
    let u = mod-lt m (pow_pos k) in
    let v = mod-lt n (pow_pos k) in
    let high = sym (digits_div (m / 256 ^ k % 256) u) ∙ ap (λ (x : ℕ). x / 256 ^ k) p ∙ digits_div (n / 256 ^ k % 256) v in
    let rest = sym (digits_mod (m / 256 ^ k % 256) u) ∙ ap (λ (x : ℕ). x % 256 ^ k) p ∙ digits_mod (n / 256 ^ k % 256) v in
    ap (λ (b : ℕ). b ∷ big_endian k m) high ∙ ap (λ (bs : List ℕ). (n / 256 ^ k % 256) ∷ bs) (big_endian_same k m n rest)

-- the number that w bytes show is below 256 ^ w, and they are its bytes
pub number_shown : (w : ℕ) (bs : List ℕ) → length bs ≡ w → Bytes bs → (number bs < 256 ^ w) × (big_endian w (number bs) ≡ bs)
number_shown w [] l e = subst (λ (k : ℕ). (0 < 256 ^ k) × (big_endian k 0 ≡ [])) l (omega arith, refl)
number_shown w (b ∷ bs) l e =
    let c = 256 ^ length bs in
    let n = b * c + number bs in
    let rest = number_shown (length bs) bs refl e.1 in
    let first = ap (λ (x : ℕ). x % 256) (digits_div b rest.0) ∙ mod-eq_of_lt e.0 in
    let same = mul-add-mod_self_right b c (number bs) in
    let less : n < 256 ^ suc (length bs) = rw pow-succ' (digits_lt e.0 rest.0) in
    let whole =
    ap (λ (x : ℕ). x ∷ big_endian (length bs) n) first
    ∙ ap (λ (xs : List ℕ). b ∷ xs) (big_endian_same (length bs) n (number bs) same ∙ rest.1) in
    subst (λ (k : ℕ). (n < 256 ^ k) × (big_endian k n ≡ b ∷ bs)) l (less, whole)
