use Rattle.std.proofs.Common.{rules}
use Rattle.objects.proofs.Place.{slice_at, found_within}
use Rattle.objects.proofs.state.Objects.slot_of.Goals as goal

pub returns-in-Innermost-clause-within : goal.returns-in-Innermost-clause-within
returns-in-Innermost-clause-within c = found_within c.args.self.now c.args.which c.copied.result (search rules)

pub returns-in-LastPacked-clause-within : goal.returns-in-LastPacked-clause-within
returns-in-LastPacked-clause-within c = found_within c.args.self.now c.args.which c.copied-in-LastPacked.result (search rules)

pub returns-in-Numbered-clause-within : goal.returns-in-Numbered-clause-within
returns-in-Numbered-clause-within c =
    let l = slice_at _ _ _ c.get.ensures.lookup in
    found_within c.args.self.now c.args.which c.copied-in-Numbered.result (search rules)
