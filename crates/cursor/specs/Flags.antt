-- The error flags as sets: their names, joining, and which sets are soft or hard.
use Rattle.std.specs.Prelude.{ℕ, Bool, not, ◌&&◌, ◌||◌, List, [], ◌∷◌, ◌==◌, bit_and, bit_or}
use Rattle.cursor.specs.declared.flags.SerializeErrorFlags.{SerializeErrorFlags}

abbrev pub flags : ℕ → SerializeErrorFlags
flags n = record { 0 = n }

abbrev pub none : SerializeErrorFlags
none = flags 0

abbrev pub other : SerializeErrorFlags
other = flags 1

abbrev pub offset_overflow : SerializeErrorFlags
offset_overflow = flags 2

abbrev pub out_of_room : SerializeErrorFlags
out_of_room = flags 4

abbrev pub int_overflow : SerializeErrorFlags
int_overflow = flags 8

abbrev pub array_overflow : SerializeErrorFlags
array_overflow = flags 16

abbrev pub read_error : SerializeErrorFlags
read_error = flags 32

abbrev pub empty : SerializeErrorFlags
empty = flags 64

-- all that have a name
abbrev pub named : List SerializeErrorFlags
named = none ∷ other ∷ offset_overflow ∷ out_of_room ∷ int_overflow ∷ array_overflow ∷ read_error ∷ empty ∷ []

-- the flags of both sets
abbrev pub joined : SerializeErrorFlags → SerializeErrorFlags → SerializeErrorFlags
joined f g = flags (bit_or f.0 g.0)

abbrev pub same_flags : SerializeErrorFlags → SerializeErrorFlags → Bool
same_flags f g = f.0 == g.0

-- whether each flag of g is in f
abbrev pub contains : SerializeErrorFlags → SerializeErrorFlags → Bool
contains f g = bit_and f.0 g.0 == g.0

-- exactly one overflow
abbrev pub soft : SerializeErrorFlags → Bool
soft f = same_flags f offset_overflow || (same_flags f int_overflow || same_flags f array_overflow)

-- any other set but none
abbrev pub hard : SerializeErrorFlags → Bool
hard f = not (same_flags f none) && not (soft f)
