use Rattle.std.proofs.Common.{◌≡◌, ◌++◌, take}
use Rattle.scalar.specs.BigEndian.{big_endian}
use Rattle.coverage.specs.Coverage.{glyph_array}
use Rattle.coverage.proofs.table.written.Given as goal

abbrev pub invariant-loop-glyph : goal.invariant-loop-glyph
invariant-loop-glyph l = l.table.items ≡ big_endian 2 l.format ++ (big_endian 2 l.count ++ glyph_array (take l.glyph-index l.glyphs))
