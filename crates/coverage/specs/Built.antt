-- What building a Coverage table answers.
use Rattle.std.specs.Prelude.{◌≡◌, ℕ, ◌<◌, ◌≤◌, List, length, Ok, Err, vec_items, Result, Vec}
use Rattle.coverage.specs.declared.table.CoverageFault.{CoverageFault}
use Rattle.coverage.specs.declared.table.CoverageFault.TheVariants.{TooManyGlyphs, NoMemory}
use Rattle.coverage.specs.Coverage.{coverage_format1}

-- the table's bytes, or how many glyphs there are where they are more than a uint16 counts, or want of memory
abbrev pub Built : {A : Type 0} → List ℕ → Result (Vec ℕ A) CoverageFault → Type 0
Built glyphs (Ok table) = (length glyphs ≤ 65535) × (vec_items table ≡ coverage_format1 glyphs)
Built glyphs (Err (TooManyGlyphs n)) = (65535 < length glyphs) × (n ≡ length glyphs)
Built glyphs (Err NoMemory) = length glyphs ≤ 65535
