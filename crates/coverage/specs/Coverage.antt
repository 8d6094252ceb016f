-- The Coverage table of OpenType, format 1: a format, the number of glyphs, and their ids in numerical order, each a uint16.
use Rattle.std.specs.Prelude.{ℕ, Bool, List, ◌++◌, length, ◌==◌}
use Rattle.std.specs.List.{list_any, flat_map}
use Rattle.scalar.specs.BigEndian.{big_endian}

-- whether an id is in a list: equal functions are equal sets of ids, however often each stands
abbrev pub among : List ℕ → ℕ → Bool
among ids g = list_any (λ x. x == g) ids

-- an array of uint16
abbrev pub glyph_array : List ℕ → List ℕ
glyph_array glyphs = flat_map (big_endian 2) glyphs

-- coverageFormat, glyphCount, glyphArray[glyphCount]
abbrev pub coverage_format1 : List ℕ → List ℕ
coverage_format1 glyphs = big_endian 2 1 ++ (big_endian 2 (length glyphs) ++ glyph_array glyphs)
