use Rattle.std.proofs.Common.{rules, ◌≡◌, ℕ, ◌-◌, ◌<◌, ◌≤◌, Some, sym, ap, ◌∙◌, arith}
use Rattle.std.proofs.lemmas.Grind.{common_steps}
use Rattle.std.specs.List.{slice_get}
use Rattle.links.specs.declared.chains.Chain.{Chain}
use Rattle.links.specs.Meaning.{list_at}
use Rattle.links.proofs.Reading.{At, found, get_short, get_some, list_length, last_is, read_last}
use Rattle.links.proofs.state.Links.last.Goals as goal

pub returns-in_err-chain : goal.returns-in_err-chain
returns-in_err-chain c =
    let short : (x : Chain) → c.chain.result ≡ Some x → x.count ≤ 0 = λ x e. search (rules, common_steps) in
    record { answer = c.from_residual.ensures ∙ get_short c.args.self.now c.args.list _ (λ x e. omega (arith, short x (c.chain.ensures.answer ∙ e))) }

pub index-requires : goal.index-requires
index-requires c =
    let s = c.args.self.now in
    let x = c.in_ok-chain.chain in
    let some : (c.chain.result ≡ Some x) × (0 < x.count) = search (rules, common_steps) in
    omega (arith, read_last s c.args.list x (found s c.args.list x (sym c.chain.ensures.answer ∙ some.0)) some.1, s.sized)

pub returns : goal.returns
returns c =
    let s = c.args.self.now in
    let x = c.in_ok-chain.chain in
    let some : (c.chain.result ≡ Some x) × (0 < x.count) = search (rules, common_steps) in
    let at : At s c.args.list x = found s c.args.list x (sym c.chain.ensures.answer ∙ some.0) in
    record {
      answer = get_some s c.args.list x at (x.count - 1) x.last c.index.result.now (omega (arith, some.1)) (sym (last_is s c.args.list x at some.1)) c.index.ensures
          ∙ ap (λ (n : ℕ). slice_get (list_at s c.args.list) (n - 1)) (sym (list_length s c.args.list x at));
    }
