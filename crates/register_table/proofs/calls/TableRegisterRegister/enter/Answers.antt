use Rattle.std.proofs.Common.{ℕ, ◌≤◌, length, sym, arith}
use Rattle.link.specs.declared.ObjIdx.{ObjIdx}
use Rattle.register.proofs.Listed.{fits_held, entered_held, fits_new, fits_full, entered_full}
use Rattle.register_table.specs.Cells.{entries}
use Rattle.register_table.specs.declared.cells.Entry.{Entry}
use Rattle.register_table.specs.Laws.{length_entries}
use Rattle.register_table.proofs.Change.{among_none, among_some, put}
use Rattle.register_table.proofs.calls.TableRegisterRegister.enter.Goals as goal

abbrev pair : ℕ → ObjIdx → Entry
pair h n = record { hash = h; number = n }

pub returns-in_default : goal.returns-in_default
returns-in_default c =
    let cs = c.args.self.now.cells.items in
    let f = c.in_default.ensures in
    let held = among_some cs c.args.hash c.args.number.0 c.in_default.field-0 f.0 f.1 in
    record { answer = sym (fits_held (entries cs) _ _ _ held); register = entered_held (entries cs) _ _ _ held }

pub returns-then-self : goal.returns-then-self
returns-then-self c =
    let cs = c.args.self.now.cells.items in
    let f = c.in-Err.ensures in
    let none = among_none cs c.args.hash c.args.number.0 f.2 in
    let at-capacity : c.args.self.now.capacity ≤ length (entries cs) = omega (arith, length_entries cs, c.args.self.now.counted, c.if-self.true) in
    record { answer = sym (fits_full (entries cs) _ _ _ none at-capacity); register = entered_full (entries cs) _ _ _ none at-capacity }

pub invariant_of-self : goal.invariant_of-self
invariant_of-self c =
    let t = put c.args.self.now.cells.items c.in-Err.at (pair c.args.hash c.args.number) c.args.self.now.reached c.args.self.now.once c.in-Err.ensures in
    record {
      reached = t.reached;
      once = t.once;
      counted = omega (arith, t.more, c.args.self.now.counted);
      within = omega arith;
      larger = omega arith;
    }

pub returns : goal.returns
returns c =
    let cs = c.args.self.now.cells.items in
    let t = put cs c.in-Err.at (pair c.args.hash c.args.number) c.args.self.now.reached c.args.self.now.once c.in-Err.ensures in
    record {
      answer = sym (fits_new (entries cs) _ _ _ (omega (arith, length_entries cs, c.args.self.now.counted)));
      register = t.enters _ (omega (arith, c.args.self.now.counted));
    }
