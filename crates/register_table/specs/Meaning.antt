-- What a table means as a register, and how many cells it has.
use Rattle.std.specs.Prelude.{ℕ, vec_items, vec_len}
use Rattle.register.specs.Pairs.{Pairs, pairs_of}
use Rattle.register_table.specs.declared.TableRegister.{TableRegister}
use Rattle.register_table.specs.Cells.{entries}

abbrev pub meaning : TableRegister → Pairs
meaning t = pairs_of (entries (vec_items t.cells)) t.capacity

abbrev pub width : TableRegister → ℕ
width t = vec_len t.cells
