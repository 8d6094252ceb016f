use Rattle.std.proofs.Common.{eqb, sym, subst, ap, ◌∙◌}
use Rattle.std.specs.List.Sorted.{IsStrictlyIncreasing}
use Rattle.std.proofs.lemmas.List.Filters.{dedup_is}
use Rattle.std.proofs.lemmas.Map.Keys.{IsStrictlyIncreasing-dedup}
use Rattle.coverage.specs.Coverage.{among}
use Rattle.coverage.proofs.Order.{dedup_same}
use Rattle.coverage.proofs.distinct.Goals as goal

pub returns : goal.returns
returns c =
    let xs = c.args.sorted.items in
    let e = dedup_is eqb xs _ c.dedup.ensures.filtered in
    record { ordered = subst IsStrictlyIncreasing (sym e) (IsStrictlyIncreasing-dedup xs c.requires.rising); same = ap among e ∙ dedup_same xs }
