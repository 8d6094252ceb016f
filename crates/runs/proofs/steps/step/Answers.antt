use Rattle.std.proofs.Common.{sym, ap, ◌∙◌}
use Rattle.calls.specs.declared.call.Call.{Call}
use Rattle.calls.specs.Meaning.{call_of}
use Rattle.model.specs.Run as model
use Rattle.model.specs.Closing.{Out}
use Rattle.runs.specs.Told.{told}
use Rattle.runs.proofs.steps.step.Goals as goal

pub returns-in-CheckAssign : goal.returns-in-CheckAssign
returns-in-CheckAssign g c =
    let s = c.args.s.now in
    let r = g.R.Register.holds c.args.register.now in
    let an = told c.args.answers.now in
    let is = ap (λ (x : Call). model.call (call_of x) s r an) (sym c.in-CheckAssign.is) in
    record {
      answer = ap model.Answer.Done c.check_assign.ensures.answer ∙ ap (λ (o : Out model.Answer). o.answer) is;
      state = c.check_assign.ensures.state ∙ ap (λ (o : Out model.Answer). o.state) is;
      register = ap (λ (o : Out model.Answer). o.register) is;
    }
