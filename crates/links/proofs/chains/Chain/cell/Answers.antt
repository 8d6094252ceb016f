use Rattle.std.proofs.Common.{ℕ, get_or, sym, ap, ◌∙◌, arith}
use Rattle.links.proofs.Walk.{hop_more}
use Rattle.links.proofs.chains.Chain.cell.Goals as goal

pub bounds-nexts-at : goal.bounds-nexts-at
bounds-nexts-at c = omega (arith, c.loop.invariant, c.requires.inside c.loop.counter (omega arith))

pub loop-preserved : goal.loop-preserved
loop-preserved c =
    let ns = c.args.nexts.now in
    ap (λ (k : ℕ). get_or ns k 0) c.loop.invariant ∙ sym (hop_more ns c.args.self.first c.loop.counter)
