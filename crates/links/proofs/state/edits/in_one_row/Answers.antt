use Rattle.std.proofs.Common.{rules, ◌+◌, refl, arith}
use Rattle.std.proofs.lemmas.Iterator.{YieldsList-from_range, YieldsList-from_map}
use Rattle.std.proofs.lemmas.Iterator.Consumers.{YieldsList-at}
use Rattle.std.proofs.lemmas.Iterator.Adapters.{items_from_extend}
use Rattle.links.proofs.state.edits.in_one_row.Goals as goal

pub returns : goal.returns
returns c =
    let h = items_from_extend c.extend.result c.extend.ensures.ran
    (YieldsList-from_map _ (λ i. i + 1) (YieldsList-at c.map.ensures.source (YieldsList-from_range 0 c.args.count c.args.count refl (omega arith))) c.map.ensures.closure
    (λ x r q k. search rules)) in
    search rules
