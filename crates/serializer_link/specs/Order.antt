-- A child ordered before another object.
use Rattle.std.specs.Prelude.{true, false, Ok, Err, Result, ◌==◌}
use Rattle.cursor.specs.declared.flags.SerializeErrorFlags.{SerializeErrorFlags}
use Rattle.link.specs.declared.Link.{Link}
use Rattle.link.specs.declared.ObjIdx.{ObjIdx}
use Rattle.model.specs.State.{State}
use Rattle.model.specs.Declining.{refuse}
use Rattle.model.specs.Linking.{child_tests, ordering}

-- a link to k itself is passed over; else its child must be packed, and a link cell free
abbrev pub order : ObjIdx → Link → State → State × Result (Unit {0}) SerializeErrorFlags
order k l s = elim (l.objidx.0 == k.0) [ true ↦ (s, Ok tt) | false ↦ refuse (child_tests l s) Err s (λ s. (ordering k l s, Ok tt)) ]
