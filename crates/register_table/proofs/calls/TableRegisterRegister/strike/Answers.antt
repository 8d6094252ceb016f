use Rattle.std.proofs.Common.{◌≤◌, sym, ap, ◌∙◌, subst, arith}
use Rattle.std.proofs.lemmas.List.{with_items_is}
use Rattle.register.specs.Pairs.{pairs_of}
use Rattle.register.proofs.Listed.{struck_none}
use Rattle.register_table.specs.Cells.{entries, filled, times, Reached}
use Rattle.register_table.proofs.Change.{among_none, out}
use Rattle.register_table.proofs.calls.TableRegisterRegister.strike.Goals as goal

pub returns-in_default : goal.returns-in_default
returns-in_default c =
    let cs = c.args.self.now.cells.items in
    let f = c.in_default.ensures in
    record { register = struck_none (entries cs) _ _ _ (among_none cs c.args.hash c.args.number.0 f.2) }

pub invariant_of-self : goal.invariant_of-self
invariant_of-self c =
    let t = out c.args.self.now.cells.items c.vacate.new.cells c.in-Ok.at c.args.hash c.args.number.0 c.args.self.now.once c.in-Ok.ensures (rw c.deref_mut.ensures.value at c.vacate.ensures.pairs) in
    let same = with_items_is c.args.self.now.cells c.vacate.new.cells (omega arith) in
    record {
      reached = λ k. subst (λ xs. Reached xs k) (sym same) (c.vacate.ensures.reached k);
      once = λ g m. subst (λ xs. times xs g m ≤ 1) (sym same) (t.once g m);
      counted = omega (arith, ap filled same, t.fewer, c.args.self.now.counted);
      within = omega arith;
      larger = omega arith;
    }

pub returns-in-Ok : goal.returns-in-Ok
returns-in-Ok c =
    let t = out c.args.self.now.cells.items c.vacate.new.cells c.in-Ok.at c.args.hash c.args.number.0 c.args.self.now.once c.in-Ok.ensures (rw c.deref_mut.ensures.value at c.vacate.ensures.pairs) in
    let same = with_items_is c.args.self.now.cells c.vacate.new.cells (omega arith) in
    record { register = ap (λ xs. pairs_of (entries xs) c.args.self.now.capacity) same ∙ t.strikes _ }
