-- The field that a range of the memory is in an object.
use Rattle.std.specs.Prelude.{ℕ, ◌-◌, Bool, true, false, not, ◌||◌, is_some, Some, None, Option, nat_lt}
use Rattle.std.specs.Option.{unwrap_or}
use Rattle.link.specs.declared.LinkWidth.TheVariants.{Zero}
use Rattle.link.specs.Width.{width_of_length}
use Rattle.serializer_link.specs.declared.adds.Field.{Field}

-- its length is no width, or its start lies before the object's head or too far past it
abbrev pub unfit : ℕ → ℕ → ℕ → Bool
unfit head from to = not (is_some (width_of_length (to - from))) || (nat_lt from head || nat_lt 4294967295 (from - head))

abbrev pub field_in : ℕ → ℕ → ℕ → Option Field
field_in head from to = elim (unfit head from to) [ true ↦ None | false ↦ Some (record { width = unwrap_or (width_of_length (to - from)) Zero; position = from - head }) ]
