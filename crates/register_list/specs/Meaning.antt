-- What the list means: the pairs of its rows, and its capacity.
use Rattle.std.specs.Prelude.{vec_items}
use Rattle.register.specs.Pairs.{Pairs, pairs_of}
use Rattle.register_list.specs.declared.ListRegister.{ListRegister}
use Rattle.register_list.specs.Rows.{pairs}

abbrev pub meaning : ListRegister → Pairs
meaning s = pairs_of (pairs (vec_items s.rows)) s.capacity
