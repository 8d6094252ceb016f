use Rattle.register_list.proofs.Walk.{next_first}
use Rattle.register_list.proofs.calls.ListRegisterRegister.next.Goals as goal

pub returns : goal.returns
returns c =
    let x = c.args.self.now in
    record { answer = rw (c.first_under.ensures.answer, c.deref.ensures.value) (next_first x.rows.items _ _ _ c.place-at.ensures.answer x.sorted) }
