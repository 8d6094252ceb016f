-- What links feed to the hash of their object: each field in a fixed number of bytes, big-endian, so that equal lists feed alike.
use Rattle.std.specs.Prelude.{ℕ, Bool, cond, List, [], ◌∷◌, ◌++◌}
use Rattle.scalar.specs.BigEndian.{big_endian}
use Rattle.link.specs.declared.Link.{Link}
use Rattle.link.specs.declared.OffsetWhence.{OffsetWhence}
use Rattle.link.specs.declared.OffsetWhence.TheVariants.{Head, Tail, Absolute}
use Rattle.link.specs.Width.{bytes_of_width}

abbrev pub signed_code : Bool → ℕ
signed_code signed = cond signed 1 0

abbrev pub whence_code : OffsetWhence → ℕ
whence_code Head = 0
whence_code Tail = 1
whence_code Absolute = 2

-- width, signed and whence as single bytes, bias and position as four, the object's number as eight
abbrev pub link_feed : Link → List ℕ
link_feed l =
    (bytes_of_width l.width ∷ signed_code l.is_signed ∷ whence_code l.whence ∷ [])
    ++ (big_endian 4 l.bias ++ (big_endian 4 l.position ++ big_endian 8 l.objidx.0))

-- one link after another
abbrev pub links_feed : List Link → List ℕ
links_feed [] = []
links_feed (l ∷ ls) = link_feed l ++ links_feed ls
