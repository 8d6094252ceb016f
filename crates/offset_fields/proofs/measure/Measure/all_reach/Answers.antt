use Rattle.std.proofs.Common.{rules, tests}
use Rattle.std.proofs.lemmas.Iterator.Consumers.{YieldsList-from_first}
use Rattle.std.proofs.lemmas.Iterator.Search.{all_from_yields_List}
use Rattle.offset_fields.specs.Passes.{free, packed, placed_from, reaches}
use Rattle.offset_fields.specs.Walk.{left}
use Rattle.offset_fields.proofs.measure.Measure.all_reach.Goals as goal

pub returns : goal.returns
returns c =
    let m = c.args.self.now in
    let all = YieldsList-from_first (λ x. x) left (placed_from 0 (packed m)) c.links.ensures.answer in
    record { answer = all_from_yields_List (reaches (free m) (packed m)) c.all.new.self (record { 0 = c.args.self }) c.all.result c.all.ensures.ran all (λ x b q k. search (rules, tests)) }
