use Rattle.std.proofs.Common.{sym, ap, ◌∙◌}
use Rattle.cursor.specs.declared.flags.SerializeErrorFlags.{SerializeErrorFlags}
use Rattle.objects.specs.Contents.{contents}
use Rattle.offset_fields.specs.Passes.{ending}
use Rattle.offset_fields.proofs.Put.{reached, not_reached}
use Rattle.offset_fields.proofs.passes.write_fields.Goals as goal

pub returns-then-not-all_reach : goal.returns-then-not-all_reach
returns-then-not-all_reach c =
    let k = c.args.cursor in
    let m = c.args.memory.now in
    let o = contents c.args.objects.now in
    record { state = ap (λ (f : SerializeErrorFlags). ending m f k o) c.set_err.ensures.state ∙ not_reached (ending m c.args.flags.now k o) k.apart (sym c.all_reach.ensures.answer ∙ c.if-not-all_reach.true) }

pub returns : goal.returns
returns c =
    let k = c.args.cursor in
    let s = ending c.args.memory.now c.args.flags.now k (contents c.args.objects.now) in
    record { state = c.put_all.ensures.state ∙ reached s k.apart (sym c.all_reach.ensures.answer ∙ c.if-not-all_reach.false) }
