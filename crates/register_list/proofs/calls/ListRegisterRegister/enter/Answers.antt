use Rattle.std.proofs.Common.{vec_items, sym, arith}
use lib.ListN.{length-map}
use Rattle.register.proofs.Listed.{fits_held, fits_full, entered_held}
use Rattle.register_list.specs.Rows.{pair, pairs}
use Rattle.register_list.proofs.Member.{found_among, missing_among, entered_inserted}
use Rattle.register_list.proofs.Order.{ordered_inserted}
use Rattle.register_list.proofs.calls.ListRegisterRegister.enter.Goals as goal

pub returns-in_default : goal.returns-in_default
returns-in_default c =
    let xs = vec_items c.args.self.now.rows in
    let yes = found_among xs _ _ c.in_default.ensures.answer in
    record { answer = sym (fits_held (pairs xs) _ _ _ yes); register = entered_held (pairs xs) _ _ _ yes }

pub returns-then-len-self-clause-answer : goal.returns-then-len-self-clause-answer
returns-then-len-self-clause-answer c =
    let xs = vec_items c.args.self.now.rows in
    let n = length-map xs pair in
    sym (fits_full (pairs xs) _ _ _ (missing_among xs _ _ c.in-Err.ensures.answer) (omega arith))

pub invariant_of-self-clause-sorted : goal.invariant_of-self-clause-sorted
invariant_of-self-clause-sorted c = rw c.put.ensures.items (ordered_inserted _ _ _ c.args.self.now.sorted c.in-Err.ensures.answer)

pub returns-clause-register : goal.returns-clause-register
returns-clause-register c = rw c.put.ensures.items (entered_inserted (vec_items c.args.self.now.rows) _ _ _ c.in-Err.ensures.answer (omega arith))
