use Rattle.std.proofs.Common.{sym, ap, ◌∙◌, None}
use Rattle.std.proofs.lemmas.List.{get_or_read}
use Rattle.register_table.specs.Cells.{full, better}
use Rattle.register_table.proofs.Search.{walked_more, walked_less, home_less, some_free}
use Rattle.register_table.proofs.Least.{NoLess, best_more, passed_less, here_less, next_from}
use Rattle.register_table.proofs.TableRegister.least.Goals as goal

pub loop-e-smaller : goal.loop-e-smaller
loop-e-smaller c =
    let t = c.args.self.now in
    let inv = c.loop-e.invariant.0 in
    let here = sym (get_or_read t.cells.items _ _ inv.0 c.index.ensures None) ∙ c.in-Some.is in
    rw (c.following-at.ensures.answer, c.len-in-Some.ensures, t.cells.ok.0) (walked_less t.cells.items _ _ (home_less _ _ (some_free t)) inv.0 (some_free t) inv.1 (ap full here))

pub loop-e-preserved : goal.loop-e-preserved
loop-e-preserved c =
    let cs = c.args.self.now.cells.items in
    let free = some_free c.args.self.now in
    let h = c.args.hash in
    let low = c.args.from.0 in
    let b = better h low c.loop-e.best c.in-Some.e in
    let inv = c.loop-e.invariant in
    let here = sym (get_or_read cs _ _ inv.0.0 c.index.ensures None) ∙ c.in-Some.is in
    rw (c.following-at.ensures.answer, c.len-in-Some.ensures, c.args.self.now.cells.ok.0, c.lesser-best.ensures) (
      walked_more cs _ _ (home_less _ _ free) inv.0.0 free inv.0.1 (ap full here) (NoLess cs h low b)
          (passed_less cs h low c.loop-e.best c.in-Some.e _ _ inv.0.2) (here_less cs h low c.loop-e.best c.in-Some.e _ here),
      best_more cs h low c.loop-e.best c.in-Some.e c.loop-e.at inv.0.0 here inv.1,
    )

pub returns : goal.returns
returns c =
    let t = c.args.self.now in
    let inv = c.loop-e.invariant in
    let here = sym (get_or_read t.cells.items _ _ inv.0.0 c.index.ensures None) ∙ c.in_default.is in
    next_from t.cells.items _ _ c.loop-e.best c.loop-e.at (some_free t) inv.0.0 t.reached here inv.0.2 inv.1
