-- The steps of going back, and when a snapshot is not reverted to.
use Rattle.std.specs.Prelude.{ℕ, Bool, not, ◌||◌, length, Option, nat_lt}
use Rattle.cursor.specs.declared.flags.SerializeErrorFlags.{SerializeErrorFlags}
use Rattle.link.specs.declared.PoolIdx.{PoolIdx}
use Rattle.register.specs.Pairs.{Pairs}
use Rattle.model.specs.State.{State, links_of, with_flags, with_packed, with_opened}
use Rattle.model.specs.Declining.{idle}
use Rattle.model.specs.Rewinding.{discard, same_slot, open_slot, cut}
use Rattle.objects.specs.Change.{first, behind, let_go}

-- the packed objects that start at t or above
abbrev pub left_from : ℕ → State → Pairs → State
left_from t s r = with_packed s (discard s.memory t s.packed s.pool r).left (discard s.memory t s.packed s.pool r).pool

-- the innermost object released
abbrev pub released : State → State
released s = with_opened s (behind s.opened) (let_go links_of (first s.opened) s.pool)

-- nothing can be reverted, or another slot is open, or the tail is past the end
abbrev pub stale : Option PoolIdx → ℕ → State → Bool
stale current tail s = idle s || (not (same_slot current (open_slot s)) || nat_lt (length s.memory) tail)

-- the flags restored, and the innermost object's links cut back
abbrev pub restored : SerializeErrorFlags → ℕ → ℕ → State → State
restored f a b s = cut a b (with_flags s f)
