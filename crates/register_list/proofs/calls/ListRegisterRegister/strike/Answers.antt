use Rattle.std.proofs.Common.{vec_items}
use Rattle.register.proofs.Listed.{struck_none}
use Rattle.register_list.specs.Rows.{pairs}
use Rattle.register_list.proofs.Member.{missing_among, struck_removed}
use Rattle.register_list.proofs.calls.ListRegisterRegister.strike.Goals as goal

pub returns-in-Ok : goal.returns-in-Ok
returns-in-Ok c =
    let xs = vec_items c.args.self.now.rows in
    let f = c.in-Ok.ensures.answer in
    record { register = rw c.remove.ensures.items (struck_removed xs _ _ _ c.args.self.now.sorted f) }

pub returns-in_default : goal.returns-in_default
returns-in_default c =
    let xs = vec_items c.args.self.now.rows in
    record { register = struck_none (pairs xs) _ _ _ (missing_among xs _ _ c.in_default.ensures.answer) }
