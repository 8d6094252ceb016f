-- Ending: the last object is closed, and the offsets are written into the fields of the links.
use Rattle.std.specs.Prelude.{ℕ, ◌+◌, ◌-◌, ◌*◌, ◌^◌, Bool, true, false, cond, ◌||◌, List, [], ◌∷◌, ◌++◌, length, Some, None, Option, ◌==◌, nat_lt}
use Rattle.cursor.specs.Flags.{other, offset_overflow, joined, contains}
use Rattle.link.specs.declared.Link.{Link}
use Rattle.link.specs.declared.OffsetWhence.{OffsetWhence}
use Rattle.link.specs.declared.OffsetWhence.TheVariants.{Head, Tail, Absolute}
use Rattle.link.specs.Width.{bytes_of_width}
use Rattle.register.specs.Pairs.{Pairs}
use Rattle.scalar.specs.BigEndian.{big_endian}
use Rattle.scalar.specs.Place.{write}
use Rattle.model.specs.State.{State, Object, numbered, flag, with_flags, with_memory, with_ended}
use Rattle.model.specs.Declining.{flagged, nothing_open}
use Rattle.model.specs.Closing.{Out, out, pop_pack}

-- ---- the fields to write

-- where a field stands in the memory, how many bytes it has, and the offset that goes there
pub record Field : Type 0 where
  pub place : ℕ
  pub width : ℕ
  pub signed : Bool
  pub value : ℕ

-- the two places whose difference is the distance from the parent o to the child c, so that a negative one shows
abbrev pub reach : State → OffsetWhence → Object → Object → ℕ × ℕ
reach s Head o c = (c.head, o.head)
reach s Tail o c = (c.head, o.tail)
reach s Absolute o c = (s.head + c.head, s.tail)

-- none if the number names no packed object, or the distance is negative or below the bias
abbrev pub field : State → Object → Link → Option Object → Option Field
field s o l None = None
field s o l (Some c) =
    let d = reach s l.whence o c in
    elim (nat_lt d.0 (d.1 + l.bias)) [
      | true ↦ None
      | false ↦ Some (record { place = o.head + l.position; width = bytes_of_width l.width; signed = l.is_signed; value = d.0 - (d.1 + l.bias) })
    ]

abbrev pub and_then : Option (List Field) → Option (List Field) → Option (List Field)
and_then None fs = None
and_then (Some es) None = None
and_then (Some es) (Some fs) = Some (es ++ fs)

abbrev pub single : Option Field → Option (List Field)
single None = None
single (Some f) = Some (f ∷ [])

abbrev pub fields_of : State → Object → List Link → Option (List Field)
fields_of s o [] = Some []
fields_of s o (l ∷ ls) = and_then (single (field s o l (numbered s.packed l.objidx.0))) (fields_of s o ls)

-- by the objects' numbers, so those behind first, and by the order of the links; none if one of them has none
abbrev pub fields : State → List Object → Option (List Field)
fields s [] = Some []
fields s (o ∷ os) = and_then (fields s os) (fields_of s o o.real)

-- ---- writing them

abbrev pub largest : ℕ → Bool → ℕ
largest w g = cond g (2 ^ (8 * w - 1) - 1) (2 ^ (8 * w) - 1)

-- a value above the width's largest sets OFFSET_OVERFLOW, else a field past the end of memory OTHER
abbrev pub put_field : Field → State → State
put_field f s = elim (f.width == 0) [
  | true ↦ s
  | false ↦ elim (nat_lt (largest f.width f.signed) f.value) [
    | true ↦ flag s offset_overflow
    | false ↦ elim (nat_lt (length s.memory) (f.place + f.width)) [
      | true ↦ flag s other
      | false ↦ with_memory s (write s.memory f.place (big_endian f.width f.value))
    ]
  ]
]

abbrev pub put_fields : List Field → State → State
put_fields [] s = s
put_fields (f ∷ fs) s = put_fields fs (put_field f s)

abbrev pub resolved : Option (List Field) → State → State
resolved None s = flag s other
resolved (Some fs) s = put_fields fs s

-- an object still open is an error
abbrev pub resolve : State → State
resolve s = elim (flagged s) [
  | true ↦ s
  | false ↦ elim (nothing_open s) [ true ↦ resolved (fields s s.packed) s | false ↦ flag s other ]
]

-- ---- the call

abbrev pub finish : {A : Type 0} → Out A → Out (Unit {0})
finish w = out (resolve (with_ended w.state)) w.register tt

-- with nothing packed the object stays open
abbrev pub end_over : List Object → State → Pairs → Out (Unit {0})
end_over [] s r = out s r tt
end_over (p ∷ ps) s r = finish (pop_pack false s r)

abbrev pub end_flagged : State → State
end_flagged s = with_flags s (cond (contains s.flags offset_overflow) (joined s.flags other) s.flags)

abbrev pub end_serialize : State → Pairs → Out (Unit {0})
end_serialize s r = elim (s.ended || nothing_open s) [
  | true ↦ out s r tt
  | false ↦ elim (flagged s) [
    | true ↦ out (end_flagged s) r tt
    | false ↦ end_over s.packed s r
  ]
]
