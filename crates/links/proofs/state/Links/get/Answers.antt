use Rattle.std.proofs.Common.{rules, ◌≡◌, ◌≤◌, ◌<◌, Some, sym, ◌∙◌, arith}
use Rattle.std.proofs.lemmas.Grind.{common_steps}
use Rattle.links.specs.declared.chains.Chain.{Chain}
use Rattle.links.proofs.Reading.{found, read_inside, step_within, get_short, get_some}
use Rattle.links.proofs.state.Links.get.Goals as goal

pub returns-in_err-chain : goal.returns-in_err-chain
returns-in_err-chain c =
    let short : (x : Chain) → c.chain.result ≡ Some x → x.count ≤ c.args.i = λ x e. search (rules, common_steps) in
    record { answer = c.from_residual.ensures ∙ get_short c.args.self.now c.args.list c.args.i (λ x e. short x (c.chain.ensures.answer ∙ e)) }

pub cell-at-requires : goal.cell-at-requires
cell-at-requires c =
    let s = c.args.self.now in
    let x = c.in_ok-chain.chain in
    let long : (c.chain.result ≡ Some x) × (c.args.i < x.count) = search (rules, common_steps) in
    record { inside = rw c.deref.ensures.value (read_inside s c.args.list x (found s c.args.list x (sym c.chain.ensures.answer ∙ long.0))); within = long.1 }

pub index-requires : goal.index-requires
index-requires c =
    let s = c.args.self.now in
    let x = c.in_ok-chain.chain in
    let long : (c.chain.result ≡ Some x) × (c.args.i < x.count) = search (rules, common_steps) in
    omega (arith, step_within s c.args.list x (found s c.args.list x (sym c.chain.ensures.answer ∙ long.0)) c.args.i c.cell-at.result long.1 (rw c.deref.ensures.value at c.cell-at.ensures.answer), s.sized)

pub returns : goal.returns
returns c =
    let s = c.args.self.now in
    let x = c.in_ok-chain.chain in
    let long : (c.chain.result ≡ Some x) × (c.args.i < x.count) = search (rules, common_steps) in
    record { answer = get_some s c.args.list x (found s c.args.list x (sym c.chain.ensures.answer ∙ long.0)) c.args.i c.cell-at.result c.index.result.now long.1 (rw c.deref.ensures.value at c.cell-at.ensures.answer) c.index.ensures }
