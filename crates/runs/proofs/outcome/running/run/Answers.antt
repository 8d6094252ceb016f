use Rattle.std.proofs.Common.{◌≡◌, [], map, ap, ◌∙◌}
use Rattle.model.proofs.Whole.{law_of_run}
use Rattle.model.specs.Run as model
use Rattle.model.specs.Run.{World, Beginning}
use Rattle.calls.specs.Meaning.{call_of}
use Rattle.runs.specs.Told.{told}
use Rattle.runs.specs.Going.{gone, world_of}
use Rattle.runs.specs.Ran.{calls_of, beginning}
use Rattle.runs.proofs.Going.{as_run}
use Rattle.runs.proofs.outcome.running.run.Goals as goal

pub returns-in_err-with_capacity-clause-law : goal.returns-in_err-with_capacity-clause-law
returns-in_err-with_capacity-clause-law g c =
    law_of_run c.law_stands.ensures (beginning c.args.memory (g.R.Register.holds c.args.register.now)) (g.met.R.Register.counted c.args.register.now) (calls_of c.args.list.now)

pub returns-in_err-make_all-clause-law : goal.returns-in_err-make_all-clause-law
returns-in_err-make_all-clause-law g c =
    law_of_run c.law_stands.ensures (beginning c.args.memory (g.R.Register.holds c.args.register.now)) (g.met.R.Register.counted c.args.register.now) (calls_of c.args.list.now)

pub returns : goal.returns
returns g c =
    let r = g.R.Register.holds c.args.register.now in
    let b : Beginning = beginning c.args.memory r in
    let cs = map call_of c.args.list.now in
    let start : world_of (record { serializer = c.new.result; answers = c.in_ok-with_capacity.field-0 }) r ≡ model.run b [] =
    λ i. record { state = c.new.ensures.answer i; register = r; answers = told (c.in_ok-with_capacity.ensures.items i) } in
    let whole = c.in_ok-make_all.ensures.went ∙ ap (λ (w : World). gone w cs) start ∙ as_run b cs in
    record {
      answer = record { state = ap (λ (w : World). w.state) whole; answers = ap (λ (w : World). w.answers) whole };
      register = ap (λ (w : World). w.register) whole;
      law = law_of_run c.law_stands.ensures b (g.met.R.Register.counted c.args.register.now) (calls_of c.args.list.now);
    }
