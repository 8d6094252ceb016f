use Rattle.std.proofs.Common.{length, ap, arith, rules}
use Rattle.std.proofs.iter.Next.{firm}
use Rattle.links.specs.Rest.{rest}
use Rattle.links.proofs.Step.{none_left, step_is, step_inside}
use Rattle.links.proofs.state.iters.steps.LinkIterIterator.next.Goals as goal

pub returns-in_err-self-clause-steps : goal.returns-in_err-self-clause-steps
unfolding rest
returns-in_err-self-clause-steps c =
    let w = c.args.self.now in
    let e = none_left w.owner.now w.cell w.left (omega (arith, c.in_err-self.ensures)) in
    rw c.from_residual.ensures (e, e)

pub index-link-requires : goal.index-link-requires
index-link-requires c = omega (arith, c.args.self.now.inside 0 (omega (arith, c.in_ok-self.ensures.0)), c.args.self.now.owner.now.sized)

pub index-requires : goal.index-requires
index-requires c = c.args.self.now.inside 0 (omega (arith, c.in_ok-self.ensures.0))

pub invariant_of-self : goal.invariant_of-self
invariant_of-self c =
    let w = c.args.self.now in
    record { inside = step_inside w.owner.now w.cell w.left c.in_ok-self.field-0 c.index.result.now c.index-link.result.now (omega (arith, c.in_ok-self.ensures.0, c.in_ok-self.ensures.1)) w.inside c.index-link.ensures c.index.ensures }

pub returns-clause-steps : goal.returns-clause-steps
unfolding rest
returns-clause-steps c =
    let w = c.args.self.now in
    step_is w.owner.now w.cell w.left c.in_ok-self.field-0 c.index.result.now c.index-link.result.now (omega (arith, c.in_ok-self.ensures.0, c.in_ok-self.ensures.1)) w.inside c.index-link.ensures c.index.ensures

pub returns-clause-goes : goal.returns-clause-goes
unfolding rest
returns-clause-goes c =
    let w = c.args.self.now in
    let e = step_is w.owner.now w.cell w.left c.in_ok-self.field-0 c.index.result.now c.index-link.result.now (omega (arith, c.in_ok-self.ensures.0, c.in_ok-self.ensures.1)) w.inside c.index-link.ensures c.index.ensures in
    firm ((tt, tt, omega (arith, ap length e))) (λ h. search rules)
