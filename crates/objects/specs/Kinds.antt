-- The links of an object by their kind, and which list of links they are.
use Rattle.std.specs.Prelude.{ℕ, ◌+◌, ◌*◌, List, Option}
use Rattle.link.specs.declared.Link.{Link}
use Rattle.link.specs.declared.PoolIdx.{PoolIdx}
use Rattle.model.specs.State.{Object}
use Rattle.model.specs.Reading.{real_of, virtual_of}
use Rattle.objects.specs.declared.extents.Kind.{Kind}
use Rattle.objects.specs.declared.extents.Kind.TheVariants.{Real, Virtual}

-- the number of the list of a slot's links of a kind
abbrev pub list_number : Kind → PoolIdx → ℕ
list_number Real x = 2 * x.0
list_number Virtual x = 2 * x.0 + 1

-- the links of a kind
abbrev pub of_kind : Kind → Object → List Link
of_kind Real o = o.real
of_kind Virtual o = o.virtual

-- none where there is no object
abbrev pub links_in : Kind → Option Object → List Link
links_in Real o = real_of o
links_in Virtual o = virtual_of o

-- an object with other links of a kind
abbrev pub with_kind : Kind → List Link → Object → Object
with_kind Real ls o = record { slot = o.slot; head = o.head; tail = o.tail; real = ls; virtual = o.virtual }
with_kind Virtual ls o = record { slot = o.slot; head = o.head; tail = o.tail; real = o.real; virtual = ls }
