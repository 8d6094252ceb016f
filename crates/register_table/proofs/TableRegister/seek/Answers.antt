use Rattle.std.proofs.Common.{sym, ap, ◌∙◌, None}
use Rattle.std.proofs.lemmas.List.{get_or_read}
use Rattle.register_table.specs.Cells.{full}
use Rattle.register_table.proofs.Search.{walked_less, unseen, home_less, some_free}
use Rattle.register_table.proofs.TableRegister.seek.Goals as goal

pub loop-e-smaller : goal.loop-e-smaller
loop-e-smaller c =
    let t = c.args.self.now in
    let inv = c.loop-e.invariant in
    let here = sym (get_or_read t.cells.items _ _ inv.0 c.index.ensures None) ∙ c.in-Some.is in
    rw (c.following-at.ensures.answer, c.len-in-Some.ensures, t.cells.ok.0) (walked_less t.cells.items _ _ (home_less _ _ (some_free t)) inv.0 (some_free t) inv.1 (ap full here))

pub returns : goal.returns
returns c =
    let t = c.args.self.now in
    let inv = c.loop-e.invariant in
    let here = sym (get_or_read t.cells.items _ _ inv.0 c.index.ensures None) ∙ c.in_default.is in
    (inv.0, here, unseen t.cells.items _ _ _ (home_less _ _ (some_free t)) inv.0 t.reached here inv.2, inv.1)
