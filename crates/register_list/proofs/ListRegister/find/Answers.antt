use Rattle.register_list.proofs.Bisection.{found}
use Rattle.register_list.proofs.ListRegister.find.Goals as goal

pub returns : goal.returns
returns c =
    let x = c.args.self.now in
    record { answer = found x.rows.items c.args.row x.sorted c.binary_search.result (rw c.deref.ensures.value at c.binary_search.ensures.bound) (rw c.deref.ensures.value at c.binary_search.ensures.position) }
