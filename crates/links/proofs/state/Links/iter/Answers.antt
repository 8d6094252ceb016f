use Rattle.std.proofs.Common.{sym, ap, ◌∙◌, subst, arith}
use Rattle.std.proofs.lemmas.Option.{unwrap_or-slice_get}
use Rattle.std.specs.Option.{unwrap_or}
use Rattle.links.specs.declared.chains.Chain.{Chain}
use Rattle.links.specs.Walk.{no_chain, Inside, nodes}
use Rattle.links.specs.Meaning.{links_at}
use Rattle.links.specs.Rest.{rest}
use Rattle.links.proofs.Reading.{links_of, nexts_of, chains_of, cells_linked, list_at_is, any_inside}
use Rattle.links.proofs.state.Links.iter.Goals as goal

pub invariant_of-result : goal.invariant_of-result
invariant_of-result c =
    let s = c.args.self.now in
    let is = c.unwrap_or-chain.ensures ∙ ap (λ o. unwrap_or o no_chain) c.chain.ensures.answer ∙ unwrap_or-slice_get (chains_of s) c.args.list no_chain in
    record { inside = λ i h. omega (arith, subst (Inside (nexts_of s)) (sym is) (any_inside s c.args.list) i h, cells_linked s) }

pub returns : goal.returns
unfolding rest
returns c =
    let s = c.args.self.now in
    let is = c.unwrap_or-chain.ensures ∙ ap (λ o. unwrap_or o no_chain) c.chain.ensures.answer ∙ unwrap_or-slice_get (chains_of s) c.args.list no_chain in
    record { answer = ap (λ (x : Chain). links_at (links_of s) (nodes (nexts_of s) x)) is ∙ sym (list_at_is s c.args.list) }
