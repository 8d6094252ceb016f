use Rattle.std.proofs.Common.{◌≡◌, ◌+◌, ◌≤◌, List, [], length, drop, Some, Err, sym, ap, ◌∙◌, rules, arith}
use Rattle.link.specs.declared.Link.{Link}
use Rattle.std.proofs.lemmas.List.{drop_all}
use Rattle.model.specs.State.{State}
use Rattle.model.specs.Linking.{repacking, open_links}
use Rattle.model.specs.Reading.{nth}
use Rattle.serializer_state.specs.View.{view}
use Rattle.serializer_link.proofs.Joined.{Answered}
use Rattle.serializer_link.proofs.Open.{real_open}
use Rattle.serializer_link.proofs.Ordering.{order_links, nth_none, turn_passed, turn_declined}
use Rattle.serializer_link.proofs.repacks.order_all.Goals as goal
use Rattle.serializer_link.proofs.repacks.order_all.Goals.{in-Some+in_ok-order, in_default}

pub returns-in_err-order : goal.returns-in_err-order
returns-in_err-order c =
    let i = c.loop-i.i in
    let ls = open_links (view c.args.s.now) in
    let f = c.in_err-order.field-0.0 in
    let here : nth ls i ≡ Some c.in-Some.link = ap (λ (xs : List Link). nth xs i) (sym (real_open (view c.loop-i.s).opened ∙ c.loop-i.invariant.0)) ∙ sym c.real_link.ensures.answer ∙ c.in-Some.is in
    let e = turn_declined c.args.objidx ls i c.in-Some.link (view c.loop-i.s) _ c.loop-i.invariant.1 here f (sym c.order.ensures.answer ∙ c.in_err-order.was) in
    let r : c.from_residual.result ≡ Err f = search rules in
    record { answer = r ∙ sym (ap (λ (q : Answered). q.1) e); state = c.order.ensures.state ∙ sym (ap (λ (q : Answered). q.0) e) }

pub loop-i-preserved : goal.loop-i-preserved
loop-i-preserved c =
    let i = c.loop-i.i in
    let k = c.args.objidx in
    let v = view c.loop-i.s in
    let ls = open_links (view c.args.s.now) in
    let read = ap (λ (xs : List Link). nth xs i) (sym (real_open v.opened ∙ c.loop-i.invariant.0)) ∙ sym c.real_link.ensures.answer in
    elim c.match-real_link.branch [
      | in-Some+in_ok-order w ↦
          let step = ap view w.s-is ∙ w.order.ensures.state in (
            ap open_links step ∙ order_links k w.in-Some.link v ∙ c.loop-i.invariant.0,
            ap (λ (s : State). repacking k (drop (i + 1) ls) s) step
                ∙ turn_passed k ls i w.in-Some.link v _ c.loop-i.invariant.1 (read ∙ w.in-Some.is) (sym w.order.ensures.answer ∙ w.in_ok-order.was),
          )
      | in_default w ↦ let past = nth_none ls i (read ∙ w.in_default.is) in absurd (let z : ⊥ = omega (arith, c.requires, c.loop-i-test.true) in z)
    ]

pub returns : goal.returns
returns c =
    let i = c.loop-i.i in
    let ls = open_links (view c.args.s.now) in
    let past : length ls ≤ i = omega (arith, c.requires, c.loop-i-test.false) in
    let none : drop i ls ≡ [] = drop_all i ls past in
    let e = ap (λ (xs : List Link). repacking c.args.objidx xs (view c.loop-i.s)) (sym none) ∙ c.loop-i.invariant.1 in
    record { answer = ap (λ (q : Answered). q.1) e; state = ap (λ (q : Answered). q.0) e }
