use Rattle.std.proofs.Common.{rules, ◌≡◌, ap, ◌∙◌}
use Rattle.std.specs.Option.{option_map}
use Rattle.links.specs.declared.chains.Chain.{Chain}
use Rattle.links.proofs.Reading.{len_is}
use Rattle.links.proofs.state.Links.len.Goals as goal

pub returns : goal.returns
returns c =
    let counted : c.map.result ≡ option_map (λ (x : Chain). x.count) c.chain.result = search rules in
    record { answer = counted ∙ ap (option_map (λ (x : Chain). x.count)) c.chain.ensures.answer ∙ len_is c.args.self.now c.args.list }
