-- Calls made one after another, the first of a list first.
use Rattle.std.specs.Prelude.{List, vec_items}
use Rattle.std.specs.List.{fold}
use Rattle.model.specs.Run.{Call, World, step}
use Rattle.register.specs.Pairs.{Pairs}
use Rattle.runs.specs.Told.{told}
use Rattle.runs.specs.declared.outcome.Outcome.{Outcome}

-- where calls lead from a moment
abbrev pub gone : World → List Call → World
gone w cs = fold (λ v c. step c v) w cs

-- the moment at which a serializer, with the answers that it gave, stands beside a register
abbrev pub world_of : Outcome → Pairs → World
world_of o r = record { state = o.serializer; register = r; answers = told (vec_items o.answers) }
