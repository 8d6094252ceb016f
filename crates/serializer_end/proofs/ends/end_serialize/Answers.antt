use Rattle.std.proofs.Common.{sym, ap, ◌∙◌}
use Rattle.model.specs.Closing.{Out}
use Rattle.model.specs.State.{State}
use Rattle.register.specs.Pairs.{Pairs}
use Rattle.serializer_state.specs.View.{view}
use Rattle.serializer_end.proofs.Cases.{when_ended, when_closed, when_flagged, when_none_packed, when_packed}
use Rattle.serializer_end.proofs.ends.end_serialize.Goals as goal

abbrev left_state : Out (Unit {0}) → State
left_state o = o.state

abbrev left_register : Out (Unit {0}) → Pairs
left_register o = o.register

pub returns-then-s : goal.returns-then-s
returns-then-s g c =
    let e = when_ended (view c.args.s.now) (g.R.Register.holds c.args.register.now) c.if-s.true in
    record { state = sym (ap left_state e); register = sym (ap left_register e) }

pub returns-then-nothing_open : goal.returns-then-nothing_open
returns-then-nothing_open g c =
    let e = when_closed (view c.args.s.now) (g.R.Register.holds c.args.register.now) (sym c.nothing_open.ensures.answer ∙ c.if-nothing_open.true) in
    record { state = sym (ap left_state e); register = sym (ap left_register e) }

pub returns-then-in_error : goal.returns-then-in_error
returns-then-in_error g c =
    let e = when_flagged (view c.args.s.now) (g.R.Register.holds c.args.register.now) c.if-s.false (sym c.nothing_open.ensures.answer ∙ c.if-nothing_open.false) (sym c.in_error.ensures.answer ∙ c.if-in_error.true) in
    record { state = c.end_flagged.ensures.state ∙ sym (ap left_state e); register = sym (ap left_register e) }

pub returns-then-packed_count-eq0 : goal.returns-then-packed_count-eq0
returns-then-packed_count-eq0 g c =
    let e =
    when_none_packed (view c.args.s.now) (g.R.Register.holds c.args.register.now) c.if-s.false (sym c.nothing_open.ensures.answer ∙ c.if-nothing_open.false) (sym c.in_error.ensures.answer ∙ c.if-in_error.false)
    (sym c.packed_count.ensures.answer ∙ c.if-packed_count-eq0.true) in
    record { state = sym (ap left_state e); register = sym (ap left_register e) }

pub returns : goal.returns
returns g c =
    let e =
    when_packed (view c.args.s.now) (g.R.Register.holds c.args.register.now) c.if-s.false (sym c.nothing_open.ensures.answer ∙ c.if-nothing_open.false) (sym c.in_error.ensures.answer ∙ c.if-in_error.false)
    (λ z. c.if-packed_count-eq0.false (c.packed_count.ensures.answer ∙ z)) in
    record {
      state = c.end_packed.ensures.state ∙ sym (ap left_state e);
      register = c.end_packed.ensures.register ∙ sym (ap left_register e);
    }
