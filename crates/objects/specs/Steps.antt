-- What a change of one list of links does to the contents.
use Rattle.std.specs.Prelude.{ℕ, ◌-◌, true, false, List, [], ◌∷◌, ◌++◌, length, take, ◌==◌}
use Rattle.link.specs.declared.Link.{Link}
use Rattle.model.specs.State.{Object, with_linked}
use Rattle.model.specs.Linking.{lend, cell_taken}
use Rattle.model.specs.Reading.{virtual_of}
use Rattle.objects.specs.declared.extents.Kind.{Kind}
use Rattle.objects.specs.declared.extents.Kind.TheVariants.{Virtual}
use Rattle.objects.specs.declared.extents.Which.{Which}
use Rattle.objects.specs.declared.extents.Which.TheVariants.{Innermost, LastPacked, Numbered}
use Rattle.objects.specs.Contents.{Contents}
use Rattle.objects.specs.Kinds.{of_kind, links_in, with_kind}
use Rattle.objects.specs.Change.{first}

-- ---- one object changed by f

-- the first
abbrev pub at_first : (Object → Object) → List Object → List Object
at_first f [] = []
at_first f (o ∷ os) = f o ∷ os

-- the one of a number
abbrev pub at_number : (Object → Object) → ℕ → List Object → List Object
at_number f k [] = []
at_number f k (p ∷ ps) = elim (length ps == k) [ true ↦ f p ∷ ps | false ↦ p ∷ at_number f k ps ]

-- the one that is meant
abbrev pub changes : Which → (Object → Object) → Contents → Contents
changes Innermost f c = record { opened = at_first f c.opened; packed = c.packed; pool = c.pool }
changes LastPacked f c = record { opened = c.opened; packed = at_first f c.packed; pool = c.pool }
changes (Numbered n) f c = record { opened = c.opened; packed = at_number f n.0 c.packed; pool = c.pool }

-- another number of link cells in use
abbrev pub counts : ℕ → Contents → Contents
counts n c = record { opened = c.opened; packed = c.packed; pool = with_linked c.pool n }

-- ---- what the steps do

-- a link more of a kind
abbrev pub grown : Kind → Link → Object → Object
grown k l o = with_kind k (of_kind k o ++ l ∷ []) o

abbrev pub grows : Which → Kind → Link → Contents → Contents
grows w k l c = changes w (grown k l) (record { opened = c.opened; packed = c.packed; pool = cell_taken c.pool })

-- the first links of a kind, so many
abbrev pub shortened : Kind → ℕ → Object → Object
shortened k n o = with_kind k (take n (of_kind k o)) o

abbrev pub shortens : Kind → ℕ → Contents → Contents
shortens k n c = changes Innermost (shortened k n) (counts (c.pool.linked - (length (links_in k (first c.opened)) - n)) c)

-- the innermost object's virtual links join those of the packed object n
abbrev pub hands_over : ℕ → Contents → Contents
hands_over n c = record { opened = at_first (with_kind Virtual []) c.opened; packed = lend (virtual_of (first c.opened)) n c.packed; pool = c.pool }
