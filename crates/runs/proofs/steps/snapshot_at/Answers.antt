use Rattle.std.proofs.Common.{rules}
use Rattle.runs.proofs.Taken.{taken_told, none_told}
use Rattle.runs.proofs.steps.snapshot_at.Goals as goal

pub returns : goal.returns
returns c = record { answer = search (rules, taken_told, none_told) }
