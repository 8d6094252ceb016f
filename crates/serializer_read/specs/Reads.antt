-- An object as it is handed out, in the words of the model.
use Rattle.std.specs.Prelude.{ℕ, List}
use Rattle.std.specs.Borrow.{Bor}
use Rattle.model.specs.Reading.{Seen}
use Rattle.serializer_read.specs.declared.view.ObjectView.{ObjectView}

-- by what its bytes are
abbrev pub seen_by : {B : Type 0} → (B → List ℕ) → ObjectView B → Seen
seen_by bytes v = record { head = v.head; tail = v.tail; real = v.num_real_links; virtual = v.num_virtual_links; bytes = bytes v.bytes }

-- whose bytes are lent
abbrev pub seen_in : ObjectView (Bor (List ℕ)) → Seen
seen_in = seen_by (λ bs. bs.now)
