use Rattle.std.proofs.Common.{rules, eqb, get_or}
use Rattle.register.proofs.Least.{least_as, match_as}
use Rattle.register.proofs.least_match.Goals as goal

pub returns : goal.returns
returns g c = record { answer = match_as _ _ _ _ _ (least_as _ _ _ (λ m. eqb (get_or c.args.table.now m 0) c.args.key) c.least_where.ensures.answer (λ m b k. search rules)) }
