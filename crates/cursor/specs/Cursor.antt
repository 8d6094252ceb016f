-- Where a cursor stands, and what an allocation at its head does.
use Rattle.std.specs.Prelude.{◌≡◌, ℕ, ◌+◌, ◌-◌, Bool, cond, Ok, Err, Result, nat_le}
use Rattle.cursor.specs.declared.cursor.Cursor.{Cursor}
use Rattle.cursor.specs.declared.flags.SerializeErrorFlags.{SerializeErrorFlags}
use Rattle.cursor.specs.Flags.{out_of_room}

-- the cursor stands at just these places
pub record At (c : Cursor) (head tail end : ℕ) : Type 0 where
  pub head_at : c.head ≡ head
  pub tail_at : c.tail ≡ tail
  pub end_at : c.end ≡ end

-- whether so many bytes are free
abbrev pub has_room : Cursor → ℕ → Bool
has_room c size = nat_le size (c.tail - c.head)

-- where the head stands after an allocation
abbrev pub advanced : Cursor → ℕ → ℕ
advanced c size = cond (has_room c size) (c.head + size) c.head

-- the old head, or out of room
abbrev pub allocated : Cursor → ℕ → Result ℕ SerializeErrorFlags
allocated c size = cond (has_room c size) (Ok c.head) (Err out_of_room)
