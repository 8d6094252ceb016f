use Rattle.std.proofs.Common.{List, ◌∷◌, length, vec_items, sym, refl, ap, ◌∙◌, subst, arith}
use Rattle.links.specs.declared.chains.Chain.{Chain}
use Rattle.links.specs.Walk.{no_chain}
use Rattle.links.specs.Meaning.{lists, cells, meaning}
use Rattle.links.proofs.Wiring.{Wired}
use Rattle.links.proofs.Fresh.{fresh_wired}
use Rattle.links.proofs.state.Links.none.Goals as goal

pub invariant_of-result : goal.invariant_of-result
invariant_of-result c =
    let ns = vec_items c.new-2.result in
    let w : Wired ns (no_chain ∷ vec_items c.new-3.result) =
    subst (λ (l : List Chain). Wired ns (no_chain ∷ l)) (sym c.new-3.ensures.items)
    (fresh_wired ns 0 0 no_chain (ap length c.new-2.ensures.items) (λ k h. absurd (omega arith)) refl refl refl) in
    record { sized = c.new.ensures.len ∙ sym c.new-2.ensures.len; once = w.once; ended = w.ended; filled = w.filled }

pub returns : goal.returns
unfolding lists cells
returns c = record { answer = (ap (meaning (vec_items c.new.result) (vec_items c.new-2.result)) c.new-3.ensures.items, c.new-2.ensures.len) }
