-- How much memory there is: bytes, slots and link cells.
use Rattle.std.specs.Prelude.{ℕ, vec_len}
use Rattle.objects.specs.Contents.{contents}
use Rattle.serializer_new.specs.declared.storage.Memory.{Memory}

abbrev pub size_of : Memory → ℕ
size_of m = vec_len m.bytes

abbrev pub slots_of : Memory → ℕ
slots_of m = (contents m.objects).pool.slots

abbrev pub cells_of : Memory → ℕ
cells_of m = (contents m.objects).pool.cells
