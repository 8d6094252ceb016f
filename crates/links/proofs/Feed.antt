-- What is fed to a hash in parts is fed as a whole: the fields of a link, and the links of a list.
use Rattle.std.proofs.Common.{◌≡◌, ℕ, ◌/◌, ◌%◌, Bool, true, false, List, [], ◌∷◌, ◌++◌, sym, refl, ap, ◌∙◌, div-one}
use mir.Val.{bool_byte}
use Rattle.scalar.specs.BigEndian.{big_endian}
use Rattle.fnv.specs.Fnv.{fed, hashed_from}
use Rattle.link.specs.declared.Link.{Link}
use Rattle.link.specs.Width.{bytes_of_width}
use Rattle.link.specs.Feed.{signed_code, whence_code, link_feed, links_feed}

pub hashed_append : (h : ℕ) (xs ys : List ℕ) → hashed_from h (xs ++ ys) ≡ hashed_from (hashed_from h xs) ys
hashed_append h [] ys = refl
hashed_append h (x ∷ xs) ys = hashed_append (fed h x) xs ys

-- big-endian as `to_be_bytes` writes it, which does not divide the last byte by 1
pub four_bytes : (n : ℕ) → (n / 16777216 % 256) ∷ (n / 65536 % 256) ∷ (n / 256 % 256) ∷ (n % 256) ∷ [] ≡ big_endian 4 n
four_bytes n = ap (λ (v : ℕ). (n / 16777216 % 256) ∷ (n / 65536 % 256) ∷ (n / 256 % 256) ∷ (v % 256) ∷ []) (sym (div-one n))

pub eight_bytes : (n : ℕ)
    → (n / 72057594037927936 % 256) ∷ (n / 281474976710656 % 256) ∷ (n / 1099511627776 % 256) ∷ (n / 4294967296 % 256) ∷ (n / 16777216 % 256) ∷ (n / 65536 % 256) ∷ (n / 256 % 256) ∷ (n % 256) ∷ [] ≡ big_endian 8 n
eight_bytes n =
    ap (λ (v : ℕ). (n / 72057594037927936 % 256) ∷ (n / 281474976710656 % 256) ∷ (n / 1099511627776 % 256) ∷ (n / 4294967296 % 256) ∷ (n / 16777216 % 256) ∷ (n / 65536 % 256) ∷ (n / 256 % 256) ∷ (v % 256) ∷ []) (sym (div-one n))

-- a flag as `u8::from` writes it
pub signed_byte : (b : Bool) → bool_byte b ≡ signed_code b
signed_byte true = refl
signed_byte false = refl

-- a part more
pub fed_more : (h a b : ℕ) (xs ys zs : List ℕ) → a ≡ hashed_from h xs → b ≡ hashed_from a ys → ys ≡ zs → b ≡ hashed_from h (xs ++ zs)
fed_more h a b xs ys zs ea eb e = eb ∙ ap (λ (v : ℕ). hashed_from v ys) ea ∙ ap (hashed_from (hashed_from h xs)) e ∙ sym (hashed_append h xs zs)

-- its fields in their order: a, b, c and d are the hashes after each write
pub link_fed : (h a b c d : ℕ) (l : Link) (ws xs ys zs : List ℕ) → a ≡ hashed_from h ws → b ≡ hashed_from a xs → c ≡ hashed_from b ys → d ≡ hashed_from c zs
    → ws ≡ bytes_of_width l.width ∷ signed_code l.is_signed ∷ whence_code l.whence ∷ [] → xs ≡ big_endian 4 l.bias → ys ≡ big_endian 4 l.position → zs ≡ big_endian 8 l.objidx.0
    → d ≡ hashed_from h (link_feed l)
link_fed h a b c d l ws xs ys zs ea eb ec ed ew ex ey ez =
    let kind : List ℕ = bytes_of_width l.width ∷ signed_code l.is_signed ∷ whence_code l.whence ∷ [] in
    let bias : List ℕ = big_endian 4 l.bias in
    let position : List ℕ = big_endian 4 l.position in
    let after_kind : a ≡ hashed_from h kind = ea ∙ ap (hashed_from h) ew in
    let after_bias : b ≡ hashed_from h (kind ++ bias) = fed_more h a b kind xs bias after_kind eb ex in
    let after_position : c ≡ hashed_from h ((kind ++ bias) ++ position) = fed_more h b c (kind ++ bias) ys position after_bias ec ey in
    fed_more h c d ((kind ++ bias) ++ position) zs (big_endian 8 l.objidx.0) after_position ed ez

-- the first link x of xs is fed, and ys is left
pub links_fed : (h a : ℕ) (x : Link) (xs ys : List Link) → xs ≡ x ∷ ys → a ≡ hashed_from h (link_feed x) → hashed_from a (links_feed ys) ≡ hashed_from h (links_feed xs)
links_fed h a x xs ys e f =
    ap (λ (v : ℕ). hashed_from v (links_feed ys)) f ∙ sym (hashed_append h (link_feed x) (links_feed ys)) ∙ ap (λ (l : List Link). hashed_from h (links_feed l)) (sym e)
