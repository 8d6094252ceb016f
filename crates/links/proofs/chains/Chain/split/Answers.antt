use Rattle.std.proofs.Common.{◌≡◌, ℕ, ◌-◌, get_or, sym, ap, ◌∙◌, arith}
use Rattle.links.specs.declared.chains.Chain.{Chain}
use Rattle.links.specs.Walk.{hop}
use Rattle.links.proofs.Walk.{hop_from_last}
use Rattle.links.proofs.chains.Chain.split.Goals as goal
use Rattle.links.proofs.chains.Chain.split.Goals.{then-n-eq0, else-n-eq0}

pub bounds-nexts-last : goal.bounds-nexts-last
bounds-nexts-last c = omega (arith, c.cell-last.ensures.answer, c.requires.inside (c.args.n - 1) (omega arith))

pub returns : goal.returns
returns c =
    let ns = c.args.nexts.now in
    let a = c.args.self in
    let n = c.args.n in
    let ends : c.if-n-eq0.last ≡ (hop ns a.first (n - 1), hop ns a.first n) =
    elim c.if-n-eq0.branch [
      | then-n-eq0 w ↦ w.last-is ∙ ap {B = ℕ × ℕ} (λ (m : ℕ). (hop ns a.first (m - 1), hop ns a.first m)) (sym w.if-n-eq0.true)
      | else-n-eq0 w ↦
          let last : w.cell-last.result ≡ hop ns a.first (n - 1) = w.cell-last.ensures.answer in
          let next = ap (λ (k : ℕ). get_or ns k 0) last ∙ sym (hop_from_last ns a.first n (omega arith)) in
          w.last-is ∙ (λ i. (last i, next i))
    ] in
    record {
      front = ap {B = Chain} (λ (p : ℕ × ℕ). record { first = a.first; last = p.0; count = n }) ends;
      back = ap {B = Chain} (λ (p : ℕ × ℕ). record { first = p.1; last = a.last; count = a.count - n }) ends;
    }
