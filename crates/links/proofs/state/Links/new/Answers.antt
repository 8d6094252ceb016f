use Rattle.std.proofs.Common.{◌≡◌, List, ◌∷◌, replicate, vec_items, sym, refl, ap, ◌∙◌, subst, arith}
use Rattle.links.specs.declared.chains.Chain.{Chain}
use Rattle.links.specs.Walk.{no_chain}
use Rattle.links.specs.Meaning.{lists, cells, meaning}
use Rattle.links.proofs.Wiring.{Wired}
use Rattle.links.proofs.Fresh.{fresh_wired, fresh_lists, row_length, row_steps}
use Rattle.links.proofs.state.Links.new.Goals as goal

pub invariant_of-result : goal.invariant_of-result
invariant_of-result c =
    let n = c.args.cell_count in
    let ns = vec_items c.in_ok-nexts.nexts in
    let free : Chain = record { first = 0; last = c.saturating_sub.result; count = n } in
    let are : vec_items c.in_ok-chains.chains ≡ replicate c.args.list_count no_chain = c.in_ok-chains.ensures.items_if_clones_equal (λ y h. h) in
    let long = row_length ns n c.in_ok-nexts.ensures.answer in
    let w : Wired ns (free ∷ vec_items c.in_ok-chains.chains) =
    subst (λ (l : List Chain). Wired ns (free ∷ l)) (sym are) (fresh_wired ns n c.args.list_count free long (row_steps ns n c.in_ok-nexts.ensures.answer) refl c.saturating_sub.ensures refl) in
    record { sized = omega (arith, c.in_ok-links.ensures.len, c.in_ok-nexts.nexts.ok.0, long); once = w.once; ended = w.ended; filled = w.filled }

pub returns : goal.returns
unfolding lists cells
returns c =
    let ls = vec_items c.in_ok-links.links in
    let ns = vec_items c.in_ok-nexts.nexts in
    let are : vec_items c.in_ok-chains.chains ≡ replicate c.args.list_count no_chain = c.in_ok-chains.ensures.items_if_clones_equal (λ y h. h) in
    record { answer = (ap (meaning ls ns) are ∙ fresh_lists ls ns c.args.list_count, c.in_ok-nexts.nexts.ok.0 ∙ row_length ns c.args.cell_count c.in_ok-nexts.ensures.answer) }
